pub mod Replies
pub mod Desks
