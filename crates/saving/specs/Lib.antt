-- What is said of a file's name.
pub mod NewName
