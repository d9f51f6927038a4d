pub mod Alike
pub mod Made
pub mod Theorems
