pub mod Parse
pub mod Fields
