-- The definitions that the contracts of `slots` and `board` rest on: a slot, then how lent slots are taken by value.
pub mod Slots
pub mod Loading
