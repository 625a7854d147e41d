pub mod BindingLaws
pub mod Clashes
pub mod MatchLaws
pub mod Measures
pub mod PlaceLaws
pub mod PlainLaws
pub mod Replacing
pub mod StandLaws
