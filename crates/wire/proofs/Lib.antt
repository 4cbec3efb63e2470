pub mod Choice
pub mod Laid
pub mod Flipping
pub mod Entries
pub mod Hubs
