pub mod Laws
pub mod Stages
pub mod Entries
pub mod Theorems
pub mod Reserved
pub mod Counted
