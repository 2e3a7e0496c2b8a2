-- The walk, and what a call for a reading tells. Read in this order.
pub mod Events
pub mod Readings
pub mod Tries
pub mod Run
pub mod Find
pub mod Page
pub mod Listing
pub mod Room
pub mod Origin
pub mod Levels
pub mod Shown
pub mod FirstAlike
pub mod Search
pub mod Memory
pub mod FindShown
