-- Lemmas that ghost members cite.
pub mod OtherDisk
pub mod Sets
