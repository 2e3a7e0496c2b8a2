-- The format of a grounder's text. Read in this order.
pub mod Words
pub mod Reading
pub mod Says
pub mod Collect
pub mod Opened
pub mod Forming
pub mod Make
pub mod Import
pub mod Rows
pub mod Nth
pub mod Names
pub mod FreeHeads
