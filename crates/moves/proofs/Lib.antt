pub mod Laws
pub mod Ticking
