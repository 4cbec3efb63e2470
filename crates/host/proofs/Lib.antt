pub mod Deliveries
pub mod Exchanging
pub mod Fetches
pub mod Performing
pub mod Settling
pub mod Toggles
pub mod Transferring
pub mod Trying
