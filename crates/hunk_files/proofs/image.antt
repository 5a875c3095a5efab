pub mod AddAt
pub mod FillingLaws
pub mod OffsetLists
pub mod Rising
pub mod Summed
