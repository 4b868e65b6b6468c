-- texts, lines and fields
pub mod Text
-- numbers, stations and contexts
pub mod Fields
-- a line of an event
pub mod EventLine
-- the lines of the set-up
pub mod SetUpLines
-- the line that an event prints
pub mod Result
-- a whole script
pub mod Script
-- texts put into a lent buffer
pub mod Put
