pub mod FileContent
