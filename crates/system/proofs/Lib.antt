pub mod Counting
pub mod Places
mod Powers
