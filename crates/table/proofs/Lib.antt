pub mod Drafts
pub mod Lists
