pub mod Fixed
pub mod Kept
pub mod Lists
pub mod SetOf
pub mod Memory
