pub mod FindingCounts
pub mod FindingSteps
pub mod OffsetsWithin
pub mod PlacedFindingLaws
pub mod PlacedOffsets
