mod Keyring
pub mod Walked
