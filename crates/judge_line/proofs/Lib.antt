-- The laws of `judge_line`, none of which uses a later one: from bytes to the line; proofs of functions stand in folders of their own.
pub mod WordLaws
pub mod PartLaws
pub mod Decimals
pub mod Lines
pub mod Printing
pub mod OneLine
pub mod Cases
