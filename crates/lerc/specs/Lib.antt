pub mod Meaning
pub mod Read
pub mod Stage
pub mod Linear
pub mod Parts
