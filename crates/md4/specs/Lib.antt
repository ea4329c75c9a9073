pub mod Digest
pub mod Md4
pub mod Rows
pub mod Numbers
