pub mod Kinds
pub mod Numbered
pub mod Payloads
pub mod Same
