pub mod Arrivals
pub mod Searches
pub mod View
