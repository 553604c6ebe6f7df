-- The laws of `draft_cli`; proofs of functions stand in folders of their own.
pub mod LineLaws
pub mod ProgramLaws
