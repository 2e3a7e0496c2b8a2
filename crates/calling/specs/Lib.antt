-- Where the names of a text are put, and what is said of a book that was opened.
pub mod Opened
pub mod Rows
