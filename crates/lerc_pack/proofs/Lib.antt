pub mod Joined
pub mod Rules
pub mod Order
pub mod Fields
pub mod Opening
pub mod Passes
pub mod Matching
