pub mod Order
pub mod Judging
pub mod Last
pub mod Steady
