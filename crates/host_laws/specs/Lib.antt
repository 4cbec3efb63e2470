pub mod Deliveries
pub mod Fetches
pub mod InStep
pub mod Transfers
pub mod Stages
pub mod Commands
