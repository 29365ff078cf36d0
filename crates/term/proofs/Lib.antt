pub mod Lowering
pub mod Shapes
pub mod Naming
pub mod Kinding
pub mod Counting
pub mod Ruled
pub mod Denying
