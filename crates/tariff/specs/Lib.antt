pub mod Bounds
pub mod Meaning
pub mod Most
