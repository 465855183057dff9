pub mod Checksum
pub mod Parts
pub mod Laws
pub mod Witness
