pub mod Table
pub mod Calls
pub mod Witness
pub mod Packs
