pub mod Digits
pub mod Unhex
mod Wholes
