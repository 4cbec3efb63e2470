pub mod Feeding
pub mod Mirrored
pub mod Worked
pub mod RoundTrip
pub mod WrongCheck
pub mod NoPacket
pub mod Numbers
pub mod Words
