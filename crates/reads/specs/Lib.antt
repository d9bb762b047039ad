-- What the checker's readers say.
pub mod Read
pub mod Every
