pub mod Cursor
pub mod Spans
