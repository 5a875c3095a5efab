pub mod AnsweredNumbers
pub mod ClosedFiles
pub mod ContentRuns
pub mod FewRows
pub mod Filling
pub mod FrontKinds
pub mod FrontText
pub mod FoundPlaces
pub mod LastBytes
pub mod LastEnds
pub mod LastHunks
pub mod LastObjectPlaces
pub mod LastPlaces
pub mod LoadFronts
pub mod ReadLongwords
pub mod LoadRows
mod Loaded
mod LoadedAt
pub mod MayStand
pub mod Numbers
pub mod ObjectFronts
pub mod OneFile
pub mod Packing
mod ShortRows
pub mod Passing
pub mod PlacedHunks
pub mod Readying
pub mod Refused
pub mod Streamed
pub mod PassedRows
pub mod PassedRuns
pub mod Succeeding
pub mod TableRows
pub mod TableSizes
pub mod Tabulated
pub mod BlockRows
pub mod Warned
pub mod UnitRows
