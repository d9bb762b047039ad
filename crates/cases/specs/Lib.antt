-- The marked cases as one checked table.
pub mod Table
pub mod Cases
