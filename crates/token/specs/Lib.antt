pub mod Classes
pub mod Tokens
pub mod Lexing
pub mod Items
pub mod Views
pub mod Walking
pub mod Lexings
