pub mod Limits
pub mod Shape
pub mod Header
