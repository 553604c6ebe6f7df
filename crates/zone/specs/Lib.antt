-- The definitions that the contracts of `zone` rest on: document 01's on zones and the two questions, document 02's on the pick of a bound and
-- the earliest point, then the algorithms.
pub mod Scale
pub mod Moves
pub mod Earliest
pub mod Words
pub mod Questions
pub mod Keys
pub mod Cells
pub mod Squares
pub mod Points
pub mod Reading
pub mod Stores
pub mod Parts
