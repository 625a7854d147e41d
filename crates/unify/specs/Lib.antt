pub mod Bindings
pub mod ClauseSets
pub mod Difference
pub mod Matching
pub mod Subsumption
pub mod Unifiers
