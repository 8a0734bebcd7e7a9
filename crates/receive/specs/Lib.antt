pub mod Received
pub mod Judged
