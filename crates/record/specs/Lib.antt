pub mod Format
pub mod Reading
pub mod Left
pub mod Readings
pub mod Writing
pub mod RoundTrip
