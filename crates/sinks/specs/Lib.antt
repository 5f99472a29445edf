pub mod Ends
pub mod Logs
pub mod Pairs
pub mod Sinks
pub mod Slips
