pub mod Sizes
pub mod Largest
pub mod Kept
pub mod Shorter
pub mod Tile
