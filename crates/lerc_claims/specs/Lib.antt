pub mod Arithmetic
pub mod Program
pub mod Claims
