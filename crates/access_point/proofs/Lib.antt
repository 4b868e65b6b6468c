pub mod Ticks
pub mod Written
pub mod Replies
pub mod Outsides
