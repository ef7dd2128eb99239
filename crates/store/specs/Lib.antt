pub mod Runs
pub mod View
