pub mod Real
pub mod Decoded
pub mod Stays
pub mod Theorems
