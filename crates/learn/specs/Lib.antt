pub mod Learning
pub mod Dropping
pub mod Tidying
pub mod Copying
pub mod Over
pub mod Places
