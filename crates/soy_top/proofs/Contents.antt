-- Files that are held.
pub mod Fetching
pub mod FewFiles
pub mod HeldContents
pub mod LastContents
pub mod ReadyFiles
