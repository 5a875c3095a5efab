pub mod BlockLines
pub mod BlockNames
pub mod FileLines
pub mod Printed
pub mod Reporting
pub mod ReportLines
pub mod RewritingLines
pub mod SegmentLines
