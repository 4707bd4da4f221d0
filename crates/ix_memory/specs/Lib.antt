pub mod Calls
pub mod Plan
pub mod PlanState
pub mod CallRuns
pub mod inside
pub mod lemmas
