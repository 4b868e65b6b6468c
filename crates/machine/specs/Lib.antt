-- Document 01's floor machine, to be read in this order with document 01 in hand.
-- stations, and an access point's associations (rows)
pub mod Stations
pub mod Associations
-- packets as octets, by the writer's and the reader's definitions
pub mod Packets
-- open moves and their counts
pub mod Moves
-- the rules of one access point
pub mod AccessPoint
-- the network (floor): its access points and the packets in flight (air)
pub mod Network
-- the seven events, their refusals, and a step
pub mod Events
-- refusal 14
pub mod Valid
-- one access point alone, on outside bytes
pub mod Lone
-- a list of events and its history
pub mod History
pub mod Joins
-- what is claimed of every list: the counts, demand 3, and a stronger form of it
pub mod Counted
pub mod Claim
pub mod Stronger
