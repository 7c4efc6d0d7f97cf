pub mod Cond
pub mod Refusals
pub mod Store
pub mod Shapes
pub mod Text
pub mod Nodes
