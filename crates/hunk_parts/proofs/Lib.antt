pub mod Built
pub mod CopiedText
mod Examples
pub mod ExtTypes
pub mod FewParts
pub mod GroupOffsets
pub mod InTurn
mod ItemsLeft
pub mod LongBytes
pub mod OtherParts
pub mod Payloads
pub mod PointedBytes
pub mod RowReasons
pub mod RowSizes
pub mod RowTexts
pub mod SeenParts
mod Standing
pub mod spelled
