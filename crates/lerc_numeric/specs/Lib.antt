pub mod Numeric
pub mod Kinds
pub mod Inside
pub mod Steps
pub mod Whole
