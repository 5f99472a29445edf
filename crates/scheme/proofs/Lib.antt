pub mod Beside
pub mod Masks
