pub mod GoodTables
pub mod Rising
pub mod Remainders
