pub mod Choices
pub mod Derivations
pub mod Pairs
pub mod Picks
pub mod Shape
pub mod Shapes
