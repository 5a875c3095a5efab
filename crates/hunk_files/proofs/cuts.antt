pub mod BlockCuts
pub mod LoadCuts
pub mod OneReading
pub mod TableReading
pub mod TextParts
pub mod UnitCounts
pub mod UnitCutLaws
pub mod UnitReading
