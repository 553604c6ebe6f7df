-- The definitions that the contracts of `miss_chance` rest on: an answer in four words of a slice.
pub mod Replies
