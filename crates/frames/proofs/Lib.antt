pub mod Exact
pub mod Explained
pub mod Turns
