pub mod Laws
pub mod Steps
pub mod Theorems
pub mod Saved
