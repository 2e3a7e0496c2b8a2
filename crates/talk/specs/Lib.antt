-- What is taken from a line of words, and what is told of a refusal. Read in this order.
pub mod Words
pub mod Decimal
pub mod Hexadecimal
pub mod Names
pub mod Counts
pub mod Refusals
pub mod Gathered
