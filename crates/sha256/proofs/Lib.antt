mod Laws
mod Blocks
pub mod Lengths
