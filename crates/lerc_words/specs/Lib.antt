pub mod Res
pub mod Lists
