pub mod FileParts
pub mod LoadParts
pub mod OneUnitPart
pub mod OpenedHunks
pub mod TextPlaces
pub mod UnitParts
