-- Heads of commands.
pub mod HeadsBegun
pub mod HeadsComplete
pub mod HeadsEnd
pub mod HeadsRead
pub mod Seam
pub mod SeamComma
pub mod Starts
pub mod TypeSeam
