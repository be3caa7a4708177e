-- The growth of a table, and the tables that grow.
pub mod Grow
pub mod Steps
pub mod Numbered
pub mod Lent
pub mod Nodes
pub mod Tables
