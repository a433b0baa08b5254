pub mod Numbers
pub mod Sentences
pub mod Checks
