pub mod Statements
pub mod Network
pub mod Lines
