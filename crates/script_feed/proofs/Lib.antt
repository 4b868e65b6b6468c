-- however a script is cut into pieces
pub mod Law
-- one line, and one octet
pub mod Lines
-- how long what is printed can be
pub mod Room
-- a piece while it is fed
pub mod Feeding
