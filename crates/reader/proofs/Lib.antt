pub mod Parts
pub mod Heard
pub mod SentAgain
pub mod Tasks
