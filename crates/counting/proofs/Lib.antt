-- The laws of counting, and those that its code rests on. Read in this order.
pub mod Standing
pub mod Numbers
pub mod Counts
pub mod Told
pub mod HowMany
pub mod TotalsOver
pub mod Table
pub mod Worked
pub mod Columns
pub mod PageRows
pub mod Paging
pub mod Counting
pub mod Summing
