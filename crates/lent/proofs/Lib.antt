pub mod Contexts
pub mod SetUps
