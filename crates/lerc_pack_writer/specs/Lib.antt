pub mod Writing
pub mod Parts
