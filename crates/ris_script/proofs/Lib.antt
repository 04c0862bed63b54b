pub mod ByteLemmas
pub mod DigitLemmas
pub mod FieldLemmas
pub mod HeaderLemmas
mod LeftLemmas
pub mod PlainText
pub mod ProgressLemmas
pub mod QuietScripts
mod ReadLemmas
pub mod SayingLemmas
pub mod ScriptCounts
pub mod StandingLemmas
pub mod WordLemmas
