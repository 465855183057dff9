pub mod Program
pub mod Parts
