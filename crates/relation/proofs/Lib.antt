pub mod Rows
pub mod Gathered
pub mod Climbing
pub mod Carried
pub mod Folds
