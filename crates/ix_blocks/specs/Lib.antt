pub mod Register
pub mod Owners
pub mod Laws
pub mod FileBlocks
pub mod FileLaws
pub mod Stores
pub mod Protocol
pub mod inside
