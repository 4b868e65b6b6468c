-- the code's structs and the machine's events
pub mod Event
-- an event taken apart: the packet, the AP that acts, what it does, and what is stored
pub mod Apart
