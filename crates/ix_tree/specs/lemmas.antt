-- Lemmas that ghost members cite.
pub mod Falls
pub mod PlainCode
pub mod TreeOrder
pub mod Weights
