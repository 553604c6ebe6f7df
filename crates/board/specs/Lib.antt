-- The definitions that the contracts of `board` and the board's two calls rest on: what is meant, in the order of document 02, card 3, then the algorithms.
pub mod Board
pub mod Submissions
pub mod Ranking
pub mod History
pub mod Replies
pub mod Deciding
pub mod Ordering
