pub mod Event
pub mod State
