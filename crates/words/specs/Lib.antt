-- Books in words. Read in this order.
pub mod Words
pub mod Names
pub mod Terms
pub mod Moves
pub mod Reading
pub mod Make
pub mod Rows
pub mod Progress
pub mod Text
pub mod Lines
