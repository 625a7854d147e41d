pub mod Checks
pub mod Conclusions
pub mod Fillings
pub mod Inside
pub mod Laws
pub mod Plain
pub mod Sites
