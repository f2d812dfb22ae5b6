mod Blanks
mod Programs
mod Digests
mod Runs
mod Disputes
mod Rows
