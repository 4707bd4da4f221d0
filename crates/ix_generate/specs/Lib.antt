pub mod Workload
pub mod History
pub mod Laws
pub mod inside
