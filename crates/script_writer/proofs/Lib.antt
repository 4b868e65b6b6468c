-- texts put into an array one after the other
pub mod Over
-- how long the texts are
pub mod Short
-- a whole line
pub mod Lines
