pub mod Putting
pub mod Decimal
