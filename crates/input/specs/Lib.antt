-- The definitions that the contracts of `input` and of the programs rest on: what is said of a whole input, then what a read of one did.
pub mod Answering
pub mod Reading
