pub mod Lines
pub mod Stated
pub mod TooLong
