pub mod Bare
pub mod Plain
pub mod Unplaced
