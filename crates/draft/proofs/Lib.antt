-- The laws of `draft`, none of which uses a later one: the bounds of a node, nodes found, square tables against the zones of card 5, edges; how nodes stand
-- for what is found, exploring and its code; the values and the words of a draft and their code; what the functions ask of a model, the last answer, the
-- call. Proofs of functions stand in folders of their own.
pub mod KeyWordLaws
pub mod FrontLaws
pub mod NodeLaws
pub mod LimitLaws
pub mod SmallestLaws
pub mod LandedLaws
pub mod EdgeLaws
pub mod Coding
pub mod PlacingLaws
pub mod GraphLaws
pub mod ExploringLaws
pub mod ExploredLaws
pub mod LocatedLaws
pub mod ExploreCode
pub mod ExploreNodes
pub mod StoredLaws
pub mod TextLaws
pub mod ValueLaws
pub mod WritingLaws
pub mod RoundCode
pub mod FinishLaws
pub mod ModelLaws
pub mod CallLaws
pub mod DraftCall
