pub mod Limits
pub mod Prices
pub mod Refusals
