-- what a line says, in the code's structs
pub mod Heard
-- what the private functions answer
pub mod Parts
