pub mod Front
pub mod Lines
pub mod Number
