pub mod Interpolation
pub mod Decimals
