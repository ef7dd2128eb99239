pub mod Held
pub mod Adds
pub mod Gaps
pub mod Meanings
