pub mod Rounding
pub mod Row
pub mod Given
pub mod Sheet
pub mod Nearness
pub mod RowLimits
pub mod GivenLimits
pub mod SheetLimits
