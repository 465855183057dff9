pub mod Contents
pub mod Pack
pub mod Parts
