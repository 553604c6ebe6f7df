-- The laws of `judge`, none of which uses a later one: steps, the parts of a cut, the reach, where edges land, the walk, the verdict; proofs of
-- functions stand in folders of their own.
pub mod StepLaws
pub mod PartLaws
pub mod RowReach
pub mod OutsideLaws
pub mod ReachSizes
pub mod RowLaws
pub mod ContainedLaws
pub mod EdgeLaws
pub mod WalkLaws
pub mod Walking
pub mod WalkRanges
pub mod Starting
pub mod Starts
pub mod Handing
pub mod Answering
pub mod Computing
pub mod Cases
pub mod OneAnswer
