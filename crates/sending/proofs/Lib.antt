pub mod Carried
pub mod Outboxes
pub mod Notices
