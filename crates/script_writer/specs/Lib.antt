-- HELD and TABLES
pub mod Held
