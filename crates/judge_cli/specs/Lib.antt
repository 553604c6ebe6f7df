-- The definition that the contract of `judge_cli` rests on: what the program makes of an input.
pub mod Program
