pub mod Receipted
