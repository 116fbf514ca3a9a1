use Rattle.std.proofs.Common.{◌≡◌, ◌++◌, drop}
use Rattle.term_store.specs.Kept.{forms_of}
use Rattle.term_store.proofs.wholes.add_forms.Given as goal

abbrev pub invariant-loop-term : goal.invariant-loop-term
invariant-loop-term l =
    l.numbers.items ++ forms_of l.forms.kept.items (drop l.term-index l.terms)
    ≡ l.fn.numbers.items ++ forms_of l.forms.kept.items l.terms
