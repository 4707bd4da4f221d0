-- What private contracts cite.
pub mod Fresh
pub mod Trials
pub mod Fillings
pub mod Refusing
