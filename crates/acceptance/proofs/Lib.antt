-- The theorems about what is meant, none of which uses a later one: the parts of a cut, the sum of a row, demand 3, what pins the count, that
-- acceptance and checks agree, and the fractions that tables give.
pub mod SchedulerLaws
pub mod CutLaws
pub mod SumLaws
pub mod Demand3
pub mod CountLaws
pub mod Agreement
pub mod Exact
pub mod Fractions
