pub mod Connections
pub mod LinePrefix
pub mod CaptureLines
