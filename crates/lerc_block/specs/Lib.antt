pub mod Block
pub mod Plan
pub mod Steps
pub mod Check
