pub mod Bytes
pub mod Passes
pub mod Putting
pub mod Judging
