-- A freshly formatted card, byte for byte, and what the call that makes it gives.
pub mod Formatted
pub mod Laws
pub mod Give
pub mod Fresh
