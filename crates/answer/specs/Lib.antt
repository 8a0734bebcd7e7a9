pub mod Answer
pub mod Refusal
