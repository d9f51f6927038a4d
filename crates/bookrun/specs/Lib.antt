pub mod Replies
pub mod Performing
pub mod Scripts
pub mod Printed
pub mod Openings
pub mod Journals
