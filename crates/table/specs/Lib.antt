-- The definitions that the contracts of `table` rest on: document 01's, then the algorithms, then what is kept of a table.
pub mod Fields
pub mod Table
pub mod Reading
pub mod Nodes
pub mod Scan
pub mod Index
pub mod Indexed
