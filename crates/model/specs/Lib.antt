-- The definitions that the contracts of `model` rest on: document 01's, then the algorithms, then what the index says of a model.
pub mod Kinds
pub mod TableKinds
pub mod Before
pub mod Fields
pub mod Grammar
pub mod Model
pub mod States
pub mod Reading
pub mod Openers
pub mod Follows
pub mod Scan
pub mod Index
pub mod Indexed
