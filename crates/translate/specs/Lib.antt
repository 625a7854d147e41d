pub mod Inputs
pub mod Laws
pub mod Pieces
pub mod PlainForms
pub mod Translation
