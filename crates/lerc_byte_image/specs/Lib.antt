pub mod Table
pub mod Symbols
pub mod Prediction
pub mod Image
pub mod TableParts
pub mod Parts
pub mod SymbolParts
pub mod ImageParts
