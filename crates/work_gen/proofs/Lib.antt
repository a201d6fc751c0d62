pub mod Encoded
pub mod Items
pub mod Lines
pub mod TextAt
