-- a text cut at its octets 0A, a line at its blanks
pub mod Cut
-- what is read is formed
pub mod Formed
-- the record prints what the machine prints, and the claim holds
pub mod Runs
-- document 01's example
pub mod Example
-- a script played piece by piece
pub mod Pieces
