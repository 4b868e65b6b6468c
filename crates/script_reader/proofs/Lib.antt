-- places of octets
pub mod Places
-- the pieces of a text, one by one
pub mod Pieces
-- what a line says
pub mod Saying
-- a context in the lent array
pub mod Contexts
-- the set-up: a line of values, and the first three lines
pub mod ValuesLine
pub mod Lines
-- what the caller of read_event knows
pub mod Event
