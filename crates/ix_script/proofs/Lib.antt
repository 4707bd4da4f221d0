pub mod EventLists
pub mod LineParts
pub mod LeftEvents
pub mod CursorSteps
pub mod Puts
pub mod GivenEvents
pub mod OneFault
