pub mod Ask
pub mod Reading
pub mod Shapes
pub mod Parts
pub mod Tokens
pub mod Questions
pub mod Rows
