-- Counts of bytes in a buffer, numbers as text, and places of bytes.
pub mod Counts
pub mod Digits
pub mod Places
