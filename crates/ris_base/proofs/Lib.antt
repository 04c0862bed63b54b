mod Examples
pub mod CopyLemmas
pub mod EffectLemmas
pub mod FloorLemmas
pub mod LineLemmas
pub mod ListLemmas
pub mod NumberLemmas
pub mod NumbersBelow
pub mod ReadLemmas
pub mod RequestLemmas
pub mod RowLemmas
pub mod ScriptExamples
pub mod ScriptFaults
pub mod ScriptLaws
pub mod ScriptSteps
