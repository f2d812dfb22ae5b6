pub mod Referee
pub mod Bisection
pub mod Work
pub mod Promise
