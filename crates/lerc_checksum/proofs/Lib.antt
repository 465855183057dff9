pub mod Bounds
pub mod Groups
pub mod Quads
pub mod Congruence
pub mod Sentence
pub mod Changes
pub mod Computed
pub mod Claim
