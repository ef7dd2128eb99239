pub mod Cards
pub mod Entries
pub mod Holding
pub mod Kinds
pub mod Refusals
pub mod Shown
pub mod Versions
