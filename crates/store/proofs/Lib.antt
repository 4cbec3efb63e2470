pub mod Accesses
pub mod Sectors
pub mod PlainLaws
