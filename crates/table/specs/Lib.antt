pub mod GoesBy
pub mod Once
pub mod SeatNumbers
pub mod Sizes
pub mod View
