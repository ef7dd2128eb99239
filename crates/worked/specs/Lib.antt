pub mod Numbers
pub mod Worked
