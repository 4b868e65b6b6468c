pub mod Differences
pub mod Laws
