pub mod RecordParts
mod Entries
mod PackEnds
pub mod Back
pub mod Numbers
