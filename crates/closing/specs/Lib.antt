-- Closing. Read in this order.
pub mod Growing
pub mod Conditions
pub mod News
pub mod Dropped
pub mod Clearing
pub mod Ended
pub mod Taken
pub mod Left
pub mod Picked
pub mod Settle
