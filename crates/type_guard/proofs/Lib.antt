pub mod GatherLaws
pub mod GuardingLaws
pub mod WalkLaws
pub mod WantedLaws
