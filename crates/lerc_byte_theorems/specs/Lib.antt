pub mod Reader
pub mod Witness
pub mod Images
