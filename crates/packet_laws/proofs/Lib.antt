pub mod RoundTrip
pub mod Written
pub mod WriteBack
