pub mod ByDepth
pub mod Judged
pub mod Wrong
pub mod Zipped
