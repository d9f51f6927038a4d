pub mod Values
pub mod Fronts
pub mod Decimal
pub mod FirstLine
