pub mod ArgumentLaws
pub mod ClassWordLaws
mod ConditionLaws
pub mod FoundLaws
mod FreeLaws
mod HashedWordLaws
pub mod ListLaws
pub mod MergeLaws
mod NewWordLaws
pub mod NumberLaws
pub mod OneListLaws
pub mod OrderLaws
pub mod PlaceLaws
pub mod StandLaws
mod VariableLaws
pub mod WholeLaws
mod WordFaultLaws
mod WordTableLaws
