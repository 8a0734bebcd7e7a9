pub mod Bytes
pub mod Saved
pub mod Assembled
