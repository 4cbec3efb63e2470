pub mod Taking
pub mod ReadBack
pub mod WordsRead
