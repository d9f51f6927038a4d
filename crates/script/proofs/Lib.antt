pub mod Forms
pub mod Exact
pub mod Numbers
