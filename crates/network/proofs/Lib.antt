-- get and put
pub mod LensLaws
-- refusal 14
pub mod Refusal14
-- a record as it is lent: what its types and 14 say
pub mod Lent
pub mod Sizes
pub mod Typed
-- what is reached from a new network: demand 3, and nothing left behind
pub mod Reached
pub mod Clean
-- what a loop that holds a record keeps from one event to the next
pub mod Ready
