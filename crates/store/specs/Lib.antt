pub mod Refusals
pub mod Access
pub mod Plain
pub mod Limited
pub mod Sectors
pub mod PlainLaws
