pub mod Posted
pub mod Slots
