use Rattle.std.proofs.Common.{◌≡◌, ◌++◌, drop}
use Rattle.lotos_base.specs.WrittenTerm.{written_terms}
use Rattle.lotos_base.specs.WrittenView.{written_terms_of}
use Rattle.sort_terms.specs.ScopeView.{variables_in}
use Rattle.scope_parts.specs.Seen.{seen_in_each}
use Rattle.scope_parts.specs.VisibleView.{visible_in}
use Rattle.scope_parts.proofs.visible.Visible.+seeing.Given as goal

abbrev pub invariant-add_all_seen-loop-term : goal.invariant-add_all_seen-loop-term
invariant-add_all_seen-loop-term l =
    variables_in l.scope
    ++ seen_in_each (visible_in l.self) (written_terms (written_terms_of (drop l.term-index l.term-items)))
    ≡ variables_in l.initial.scope ++ seen_in_each (visible_in l.self) (written_terms (written_terms_of l.term-items))
