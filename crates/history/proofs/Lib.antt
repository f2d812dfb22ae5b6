mod Patches
mod Slices
