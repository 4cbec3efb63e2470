pub mod Refusals
pub mod Numbers
pub mod Blocks
pub mod Statuses
pub mod Commands
pub mod Capacity
pub mod Toggles
pub mod Promises
