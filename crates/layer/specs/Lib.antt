pub mod Links
pub mod Vacancy
pub mod Rests
pub mod Grains
pub mod Graining
pub mod Rounding
pub mod Resting
