-- The engine's own paper, and what a call for it tells. Read in this order; the last two are for the functions of src/ among themselves.
pub mod Branches
pub mod Scan
pub mod PaperNeeds
pub mod Write
pub mod Steps
pub mod Draft
