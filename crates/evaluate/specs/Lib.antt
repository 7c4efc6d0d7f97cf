pub mod Filling
pub mod Enough
pub mod Shapes
pub mod Senses
pub mod Values
