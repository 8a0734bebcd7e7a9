pub mod Starred
pub mod Copies
pub mod Clauses
