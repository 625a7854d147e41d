pub mod Gathered
pub mod Guarded
pub mod GuardedLaws
pub mod Guards
pub mod OccurrenceLaws
pub mod Occurrences
pub mod Reads
