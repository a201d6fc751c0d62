pub mod Brackets
pub mod CategoryClass
pub mod Class
pub mod Pairs
