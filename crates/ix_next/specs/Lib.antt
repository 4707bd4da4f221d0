pub mod Fixed
pub mod Given
pub mod Lists
pub mod Candidates
pub mod Menu
pub mod Laws
pub mod inside
pub mod lemmas
