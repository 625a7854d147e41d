pub mod GraphLaws
pub mod NameLaws
pub mod ReorderLaws
pub mod FormLaws
pub mod NumberedLaws
pub mod TableLaws
pub mod ChainLaws
pub mod StartLaws
