pub mod Apart
pub mod Padded
pub mod Signs
