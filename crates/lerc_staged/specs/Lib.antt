pub mod Calls
pub mod Staged
