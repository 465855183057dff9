pub mod OverSum
pub mod Steps
pub mod Offsets
pub mod Blocks
pub mod Chains
pub mod Meanings
pub mod Changes
