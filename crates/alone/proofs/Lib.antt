-- the packets: their sizes, and one after the other in a buffer
pub mod Sizes
pub mod Packets
-- the calls: what a valid record grants, what the AP does, and outside bytes
pub mod Within
pub mod Acts
pub mod Outsides
