pub mod Fresh
pub mod Seats
