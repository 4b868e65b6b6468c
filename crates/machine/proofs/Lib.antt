-- the machine by computation: document 01's script and one example for each rule
pub mod Answers
-- laws of the parts
pub mod Stations
pub mod Associations
pub mod Parts
-- what is sent, the reader gives back
pub mod Wire
-- refusal 14: a record within the limits stays within them
pub mod Limits
pub mod PointLimits
pub mod Valid
pub mod Refusal14
-- demand 3: the invariant, the rules that keep it, and what it says
pub mod Invariant
pub mod Rules
pub mod Step
pub mod Held
pub mod Sends
pub mod Openness
pub mod OpenMoves
pub mod Standing
pub mod Claim
pub mod Counterexample
-- the four counts
pub mod Counts
-- moves renamed and contexts changed
pub mod ChangedOctets
pub mod Renaming
pub mod Runs
