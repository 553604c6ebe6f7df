-- What is meant by a draft (document 02, card 5): zones by their tightened bounds, what exploring finds, the words of a table, the values after
-- rounds, and the call's answer with the lent words after it.
pub mod Bounding
pub mod Exploring
pub mod Words
pub mod Rounds
pub mod Drafting
