pub mod Text
pub mod Program
