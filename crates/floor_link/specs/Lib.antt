-- what events and set-up answer
pub mod Answered
-- demand 3 of the code
pub mod Calls
