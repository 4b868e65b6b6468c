pub mod Tick
pub mod Outside
