pub mod Plain
pub mod Written
pub mod Held
pub mod Parts
pub mod Answers
pub mod Folds
pub mod Theorems
