pub mod Folded
pub mod Steps
