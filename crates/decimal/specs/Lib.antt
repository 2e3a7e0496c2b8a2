-- Numbers in decimal digits, as they are read and as they are written.
pub mod Digits
pub mod Fewest
