-- Files whose trees are alike.
pub mod AlikeAnswers
pub mod AlikeEntries
