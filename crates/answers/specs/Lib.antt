-- What a call answers: checks in an order with the answer that they lead to, and the numbers of the refusals.
pub mod Checks
pub mod Refusals
