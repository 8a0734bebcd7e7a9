pub mod Bytes
pub mod Canonical
