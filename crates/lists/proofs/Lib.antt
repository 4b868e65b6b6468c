pub mod Bools
pub mod Choices
pub mod Every
pub mod Fronts
pub mod Copies
pub mod Tables
pub mod Search
