pub mod Asked
pub mod Ticks
