pub mod Bounds
pub mod Checked
