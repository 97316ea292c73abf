-- What is proved of walks along parent links and of marks.
pub mod FoldLaws
pub mod WalkLaws
pub mod LinkLaws
pub mod MarkLaws
pub mod UnmarkedLaws
