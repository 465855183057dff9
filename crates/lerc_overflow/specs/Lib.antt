pub mod By
pub mod Changes
