pub mod GatherLaws
pub mod LongLaws
pub mod PartLaws
pub mod PendingLaws
pub mod PrintLaws
pub mod PutLaws
pub mod ReadAhead
pub mod Shown
