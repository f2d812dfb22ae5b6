pub mod Parts
pub mod Seen
pub mod Walks
mod Nodes
mod Siblings
pub mod Strings
pub mod Shapes
pub mod Bindings
pub mod Honest
mod Searches
