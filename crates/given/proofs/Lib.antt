pub mod Gathered
pub mod Bonded
pub mod Ordered
