pub mod Euclid
pub mod Bezout
