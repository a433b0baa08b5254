pub mod Lawful
pub mod Working
pub mod Witnessing
pub mod Sums
