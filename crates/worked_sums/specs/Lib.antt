pub mod Sheets
pub mod Cases
pub mod RefusalOrder
pub mod OtherTables
pub mod Witnesses
pub mod Sums
