mod Consumed
pub mod Engines
mod FileLaws
mod HexJoin
mod HexPieces
mod HexValues
pub mod RelocateLaws
mod IncomingLaws
mod RewriteLaws
