pub mod Witness
pub mod Wire
pub mod Laws
pub mod Name
