-- Lemmas that ghost members of impls need.
pub mod SoundTold
