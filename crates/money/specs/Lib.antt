pub mod Text
pub mod Signs
