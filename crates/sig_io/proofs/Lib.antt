pub mod CauseLaws
pub mod NamedLaws
pub mod ToldLaws
