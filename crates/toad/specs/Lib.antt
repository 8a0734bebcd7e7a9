pub mod Toad
