pub mod Causes
pub mod Memory
pub mod Named
pub mod Told
