-- the six calls, over the machine's rules; then what they give, worked out
pub mod Told
pub mod Examples
-- below the calls: an outbox written at the front of a buffer
pub mod Front
