-- The laws of saving.
pub mod NewNames
