pub mod Calls
pub mod Layout
pub mod Records
