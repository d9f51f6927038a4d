pub mod Form
pub mod Orders
pub mod Reading
