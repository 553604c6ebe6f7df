-- The laws of `miss_chance`: what a call replies, and that this is unique; proofs of functions stand in folders of their own.
pub mod ReplyLaws
pub mod OneReply
