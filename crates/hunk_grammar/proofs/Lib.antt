pub mod BlockWords
pub mod ObjectWords
pub mod OffsetRuns
