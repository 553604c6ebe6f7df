-- The theory of zones as tables of bounds: of bounds it knows `BoundLaws` alone, and none of these modules uses a later one.
pub mod BoundLaws
pub mod Tables
pub mod Meaning
pub mod Extend
pub mod Restore
pub mod Inside
pub mod Delay
pub mod Reset
pub mod Reach
pub mod OneScale
pub mod Rounds
