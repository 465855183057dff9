pub mod Records
pub mod Entries
pub mod Packs
