-- The laws of answers.
pub mod CheckLaws
pub mod RefusalLaws
