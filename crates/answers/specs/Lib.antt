pub mod Laws
pub mod Outcomes
pub mod Pages
pub mod Proofs
pub mod Questions
