pub mod Table
pub mod Options
pub mod Places
pub mod Search
