pub mod Lines
pub mod Pieces
