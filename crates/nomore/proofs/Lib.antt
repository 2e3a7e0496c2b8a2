-- The laws of the no_mo_re way of choosing. Read in this order.
pub mod Grounded
pub mod Node
pub mod Apart
pub mod Events
pub mod Sets
pub mod Choosing
pub mod Walking
pub mod Cases
