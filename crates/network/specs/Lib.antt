pub mod FrameTime
pub mod Ranges
