-- The laws of `table`, none of which uses a later one: words, the pass, the table; proofs of functions stand in folders of their own.
pub mod NodeLaws
pub mod Passing
pub mod Limits
pub mod ScanLaws
pub mod ReadLaws
pub mod Rows
pub mod Agreeing
pub mod Missing
pub mod Checking
pub mod Walk
pub mod Slots
pub mod Indexing
pub mod Reading
pub mod IndexFits
pub mod Shape
