-- What crates above this one need of the crates below it.
pub use Rattle.term_rewriter.specs.FirstHead.{first_head, is_missing, is_head_number, is_open, has_first, numbered_where, may_overlap, may_meet}
pub use Rattle.term_rewriter.specs.FirstIndexView.{IsIndexOf}
