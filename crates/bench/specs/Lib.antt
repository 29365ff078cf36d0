pub mod Steps
pub mod Numbers
pub mod Refusals
pub mod Keeps
pub mod Tests
pub mod Benches
