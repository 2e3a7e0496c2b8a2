-- The laws of two crews. Read in this order.
pub mod Moving
pub mod Reading
pub mod Logging
pub mod Laying
pub mod Rows
pub mod Answers
pub mod Told
