pub mod BoundLines
pub mod LintLines
pub mod MenuLines
pub mod StuckLines
pub mod WhyLines
