mod Digits
mod Laid
mod Onlyread
mod Unread
pub mod Walked
