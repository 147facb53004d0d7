-- Laws of the service that spells a path.
pub mod Serving
