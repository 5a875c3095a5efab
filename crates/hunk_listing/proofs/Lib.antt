mod BlockLaws
mod Counts
mod DecimalLaws
mod DigitPairs
mod Lines
mod RowLaws
