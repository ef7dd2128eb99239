pub mod Chain
pub mod View
