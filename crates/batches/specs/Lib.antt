pub mod Batch
pub mod Buffers
