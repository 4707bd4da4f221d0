pub mod OpenCalls
pub mod Texts
pub mod Noted
pub mod Apart
pub mod Draws
