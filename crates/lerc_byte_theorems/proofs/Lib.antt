pub mod Codes
pub mod Bits
pub mod Reader
pub mod Words
pub mod Witness
pub mod Images
