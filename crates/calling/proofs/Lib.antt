-- The laws of names that are put into rows.
pub mod Rows
pub mod Named
