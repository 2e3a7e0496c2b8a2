-- The no_mo_re way of choosing. Read in this order.
pub mod Own
