-- The laws of what is taken from a line and of what is told.
pub mod Parting
pub mod Turns
pub mod Spelling
pub mod Names
pub mod Counted
pub mod ToldRefusals
pub mod Gathered
