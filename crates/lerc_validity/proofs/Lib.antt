pub mod Preparing
pub mod Comparing
pub mod Prepared
