pub mod strip
pub mod findings
pub mod parts
pub mod object_walk
pub mod views
pub mod keeping
pub mod cuts
pub mod image
pub mod walk
mod Examples
pub mod FileKinds
