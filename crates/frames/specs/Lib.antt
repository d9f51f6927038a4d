pub mod Keys
pub mod Line
pub mod Refused
pub mod Texts
pub mod Answer
