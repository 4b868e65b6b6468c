pub mod Packets
pub mod Point
