-- What checking a paper answers. Read in this order.
pub mod Numbers
pub mod Steps
pub mod Branches
pub mod Witness
pub mod Check
pub mod Rows
pub mod Places
pub mod Parts
