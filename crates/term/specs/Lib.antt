pub mod Terms
pub mod Statements
pub mod Least
pub mod Names
pub mod Kinds
pub mod Recursion
pub mod Laws
