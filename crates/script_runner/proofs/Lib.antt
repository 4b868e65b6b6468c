-- texts put into a buffer one after the other
pub mod Buffers
-- what one line prints and leaves
pub mod Turns
-- the parts of a script, and its lines
pub mod Parts
-- the lines played so far
pub mod Playing
-- how long what is printed can be
pub mod Room
-- a whole script
pub mod Whole
