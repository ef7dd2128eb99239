pub mod Buffers
pub mod Fields
