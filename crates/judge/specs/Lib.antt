-- The definitions that the contracts of `judge` rest on: the algorithms.
pub mod Steps
pub mod Reaching
pub mod Landing
pub mod Cutting
pub mod Walk
pub mod Deciding
pub mod Looking
