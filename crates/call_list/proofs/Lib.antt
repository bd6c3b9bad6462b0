pub mod Listing
pub mod Misread
pub mod RoundTrip
