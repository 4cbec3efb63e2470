pub mod Bytes
pub mod BlockRoundTrip
pub mod StatusRoundTrip
pub mod CommandRoundTrip
pub mod CapacityRoundTrip
pub mod Worked
