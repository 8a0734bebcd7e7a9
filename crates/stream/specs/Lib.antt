pub mod Window
pub mod Left
