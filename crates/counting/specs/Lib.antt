-- In how many answer sets an atom stands, and the table over several books. Read in this order.
pub mod Counts
pub mod Count
pub mod SoFar
pub mod Totals
pub mod Table
