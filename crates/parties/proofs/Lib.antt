mod Owns
mod Played
mod Lost
