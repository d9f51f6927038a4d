pub mod Replying
pub mod Telling
pub mod Lawful
