pub mod Modular
