-- What a listing writes, and how it goes on. Read in this order.
pub mod Text
pub mod Following
