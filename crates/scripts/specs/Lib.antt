pub mod Limits
pub mod Lines
pub mod Scripts
pub mod Texts
pub mod View
pub mod Words
