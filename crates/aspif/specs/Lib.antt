-- A book as a text for other solvers. Read in this order.
pub mod Text
pub mod Reading
pub mod Scanning
pub mod Handing
pub mod Gathering
pub mod Lining
pub mod Sentences
