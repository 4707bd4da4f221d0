-- Lemmas that ghost members cite.
pub mod Same
