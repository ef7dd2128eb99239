pub mod Held
pub mod Adds
pub mod Chains
pub mod Cuts
pub mod Edits
pub mod Facts
pub mod News
