-- The definitions that the contracts of `draft_cli` rest on: the draft that an input asks for, and the text of a table.
pub mod Program
pub mod Text
