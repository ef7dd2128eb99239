pub mod Fixes
pub mod SetsOf
pub mod Verdicts
