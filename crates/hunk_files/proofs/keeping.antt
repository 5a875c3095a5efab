pub mod BlockPlaces
pub mod HunkKeeping
pub mod LoadKeeping
pub mod UnitKeeping
