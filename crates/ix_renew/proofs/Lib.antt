mod Alike
mod Allowed
mod LaterRenewals
mod ConfirmedRenewals
mod RenewedStarts
mod Beside
mod OldTickets
mod RunsAlike
mod Steps
mod Tested
mod Nothing
pub mod Making
mod Reading
mod AtRest
mod Renews
