pub mod Gives
pub mod Shapes
pub mod Looks
pub mod Bound
