pub mod Walks
pub mod Facts
pub mod Padding
pub mod Chains
