-- What joining two books and the log of two crews answer, and when. Read in this order.
pub mod Join
pub mod Log
pub mod Rows
