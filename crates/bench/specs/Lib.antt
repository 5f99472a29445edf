pub mod Sealed
pub mod Slates
pub mod Worked
pub mod Sealings
pub mod Cases
pub mod Picks
pub mod Signers
