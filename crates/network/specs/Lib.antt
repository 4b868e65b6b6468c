-- the record and the machine's network
pub mod Lens
-- the sizes of its arrays
pub mod Sizes
-- refusal 14, an event and a list of events on the record
pub mod Events
-- unused parts
pub mod Clean
-- what is proved of every list
pub mod Demand
