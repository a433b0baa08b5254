pub mod Flat
pub mod DatedSheets
pub mod Network
pub mod Indexing
pub mod IndexedSheets
pub mod FlatLimits
pub mod DatedLimits
pub mod IndexedLimits
