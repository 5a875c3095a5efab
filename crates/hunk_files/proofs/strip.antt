pub mod LoadRanges
pub mod RangeLaws
pub mod StripLaws
pub mod StripSteps
pub mod StripText
