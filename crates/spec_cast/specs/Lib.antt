pub mod Sides
pub mod Groups
pub mod Places
pub mod Said
