pub mod Bytes
pub mod Tree
pub mod Seen
pub mod Collision
pub mod Strings
pub mod Openings
