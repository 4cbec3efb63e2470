pub mod Text
pub mod Misreads
pub mod Numbers
pub mod Arguments
pub mod Hex
pub mod Names
pub mod Steps
