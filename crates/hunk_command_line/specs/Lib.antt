pub mod Asked
pub mod Command
pub mod FaultTexts
pub mod Line
