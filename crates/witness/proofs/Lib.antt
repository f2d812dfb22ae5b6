pub mod Ranges
pub mod Steps
pub mod Wires
mod Fields
pub mod Works
pub mod Checks
mod Differences
pub mod Instances
