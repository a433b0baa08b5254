pub mod TableLimits
pub mod CellLimits
pub mod Placing
pub mod Rows
