pub mod CutAt
pub mod Lines
pub mod States
pub mod Texts
pub mod Tables
pub mod Results
