pub mod Givens
pub mod Bases
pub mod Bonds
pub mod Orders
