mod Lines
pub mod Holding
mod Entries
mod Entered
