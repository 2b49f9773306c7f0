pub mod Choice
pub mod Lists
pub mod Options
pub mod Words
pub mod BigEndian
