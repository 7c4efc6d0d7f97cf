pub mod Lists
pub mod Layout
pub mod Bounds
pub mod Shapes
pub mod Lines
