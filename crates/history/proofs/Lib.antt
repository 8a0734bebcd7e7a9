pub mod Steps
pub mod Theorems
pub mod Awake
pub mod Unique
