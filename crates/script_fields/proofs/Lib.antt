-- texts
pub mod Texts
-- numbers
pub mod Numbers
-- runs of digits
pub mod Runs
