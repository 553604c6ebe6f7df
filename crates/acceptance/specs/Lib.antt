-- What is meant by judging a table: choices, schedulers, when a table is accepted, and the checks of judging in their order.
pub mod Choices
pub mod Schedulers
pub mod Acceptance
pub mod Judging
