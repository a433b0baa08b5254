pub mod Causes
pub mod Failures
