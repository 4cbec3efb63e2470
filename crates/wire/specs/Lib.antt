pub mod Carrying
pub mod Delivery
pub mod Scripts
pub mod Hubs
pub mod Names
