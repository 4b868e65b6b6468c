-- a script's lines played on a record, and a whole script
pub mod Played
