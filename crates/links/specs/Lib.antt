pub mod Tables
pub mod Quotations
pub mod Texts
