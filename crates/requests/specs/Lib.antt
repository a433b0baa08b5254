pub mod Words
pub mod Fields
pub mod Requests
pub mod RequestTexts
