pub mod Stays
pub mod Tables
pub mod Marks
pub mod Refused
pub mod Orderly
