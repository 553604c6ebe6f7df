-- The definitions that the contracts of `judge_line` rest on: document 01's on the program, then the algorithm.
pub mod Bytes
pub mod Text
pub mod Program
pub mod Printed
pub mod Words
