-- The laws of `board`; proofs of functions stand in folders of their own.
pub mod Tests
pub mod GivenLaws
pub mod SlotLaws
pub mod DecisionLaws
pub mod OrderLaws
pub mod PickLaws
pub mod RankLaws
pub mod RankingLaws
pub mod HistoryLaws
pub mod OneAnswer
