pub mod Slots
pub mod Machine
pub mod TextsOfActions
pub mod Stuck
pub mod FirstWord
pub mod TextsApart
pub mod ReadingSteps
mod TicketTexts
mod OneFault
