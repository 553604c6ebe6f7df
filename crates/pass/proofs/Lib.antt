-- The laws of a pass over words.
pub mod PassLaws
pub mod Run
pub mod Named
