pub mod NumberLemmas
pub mod RequestLemmas
pub mod ReplyKinds
pub mod StripLemmas
pub mod ReplyLemmas
pub mod RepliesApart
pub mod FaultLemmas
