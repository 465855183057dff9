pub mod Summed
