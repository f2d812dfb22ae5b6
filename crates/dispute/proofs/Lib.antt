pub mod Basics
pub mod Plays
pub mod Moves
pub mod Safe
pub mod Limits
mod Dawns
mod Halvings
pub mod Kept
mod Letters
mod Rested
