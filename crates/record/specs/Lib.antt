pub mod Record
pub mod Held
