pub mod Carried
pub mod LaterRenewals
pub mod Laws
pub mod Renewal
pub mod RunsAlike
pub mod inside
