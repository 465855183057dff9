pub mod Without
pub mod Unplaced
