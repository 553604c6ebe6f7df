-- The law of `input`; proofs of functions stand in folders of their own.
pub mod Whole
