pub mod Limits
pub mod Rows
pub mod Lookups
pub mod Laws
pub mod Found
pub mod Lent
