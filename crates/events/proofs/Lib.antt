-- what a valid record grants, and the packet and access point that an event looks at
pub mod Within
pub mod Looked
pub mod Few
-- what is stored is the machine's step
pub mod Taken
pub mod Stored
pub mod Performed
-- who
pub mod Held
pub mod Asked
-- the same of all seven, for a loop that holds the record
pub mod Turned
