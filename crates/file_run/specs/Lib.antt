pub mod Taking
pub mod Reports
pub mod Zones
pub mod Steps
pub mod Texts
