pub mod Begun
pub mod Opens
pub mod PageRest
pub mod PageState
pub mod Pulled
pub mod WereCompiled
