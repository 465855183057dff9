pub mod Offsets
pub mod Words
pub mod Storable
pub mod Reading
