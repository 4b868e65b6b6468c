pub mod Acceptance
pub mod Steps
