pub mod Folds
pub mod Walked
