pub mod Calls
pub mod Done
pub mod InTwo
pub mod Fills
pub mod Writes
pub mod Again
pub mod Unread
pub mod Staged
