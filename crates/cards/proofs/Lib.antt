pub mod Counts
pub mod Holdings
pub mod Joined
pub mod Newest
pub mod Somes
