mod Behind
mod Replacing
mod ByEdits
mod Kept
mod Whole
