mod AnyOrder
mod Collected
pub mod EnoughRoom
pub mod FewWarnings
mod Heaps
mod HunksLeft
mod InTurn
mod Least
mod NoneTold
mod OpenHunk
mod Rising
mod RoomLaws
mod Stripping
mod Zeros
