pub mod Lens
pub mod Valid
