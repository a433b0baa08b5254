pub mod Leading
pub mod AtOnce
pub mod Blanks
pub mod Noticing
pub mod Running
pub mod Lifelong
