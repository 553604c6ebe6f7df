-- One pass over the words of a file.
pub mod Steps
