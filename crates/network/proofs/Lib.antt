pub mod Rounding
pub mod FrameLength
