pub mod Table
pub mod Without29
pub mod Counted
