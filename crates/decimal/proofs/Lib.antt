-- The laws of numbers in decimal digits.
pub mod Turns
pub mod Bounds
pub mod Fewest
pub mod Plain
