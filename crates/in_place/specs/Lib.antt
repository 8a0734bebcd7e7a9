pub mod Calls
pub mod Steps
