-- The theorems about drafts, none of which uses a later one: the bounds of zones, words read back, rounds, the table that the words hold, and that
-- they pass the checks of a table's words; that there is at most one draft; what exploring finds, its rows as rounds read them, the table of it and
-- the rounds of it; that every table drafted is accepted, and what the judge certifies of it; how many words a draft has at most.
pub mod BoundingLaws
pub mod WordBack
pub mod Shares
pub mod RoundLaws
pub mod ReadBack
pub mod PassingWords
pub mod OneDraft
pub mod ExploreLaws
pub mod ValuedRows
pub mod KnownRows
pub mod DraftTable
pub mod DraftRounds
pub mod DraftAccepted
pub mod DraftJudged
pub mod DraftLength
