-- The definitions that the contracts cite.
pub mod Lasso
pub mod Decide
