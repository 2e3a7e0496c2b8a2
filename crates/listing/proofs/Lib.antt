-- The laws of what a listing writes and of how it goes on. Read in this order.
pub mod Gathering
pub mod Lines
pub mod Pages
