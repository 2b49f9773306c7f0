pub mod Answers
pub mod decode_size
