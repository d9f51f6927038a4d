pub mod Remainders
pub mod Windows
pub mod Common
pub mod Grounds
