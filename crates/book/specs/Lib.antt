-- The format of a rule book. Read in this order.
pub mod Numbers
pub mod Format
pub mod Checks
pub mod Writing
pub mod Rows
pub mod Places
pub mod Tables
pub mod Making
pub mod RuleRows
pub mod ReadBook
