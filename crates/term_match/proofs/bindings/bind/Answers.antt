use Rattle.std.proofs.Common.{◌≡◌, ℕ, List, Bor, ap, true, false, sym, ◌∙◌}
use Rattle.sort_terms.specs.TermView.{profiled_of}
use Rattle.sort_terms.specs.declared.terms.Term.{Term}
use Rattle.term_match.specs.FoundView.{found_pairs}
use Rattle.term_match.specs.Search.{looked_up}
use Rattle.term_match.proofs.SearchLemmas.{bound_same, bound_differs}
use Rattle.term_match.proofs.bindings.bind.Goals as goal

-- the term is what the variable has
pub returns-then-same : goal.returns-then-same
returns-then-same c =
    bound_same c.args.number (profiled_of c.args.term.now) (profiled_of c.in-Some.known.now) (found_pairs c.args.found.items)
    (looked_up c.args.number (found_pairs c.args.found.items))
    (c.in-Some.ensures ∙ ap (λ (xs : List (ℕ × Bor Term)). looked_up c.args.number (found_pairs xs)) c.as_slice.ensures.value)
    (c.same.ensures.0 c.if-same.true)

-- it is another one
pub returns : goal.returns
returns c =
    bound_differs c.args.number (profiled_of c.args.term.now) (profiled_of c.in-Some.known.now) (found_pairs c.args.found.items)
    (looked_up c.args.number (found_pairs c.args.found.items))
    (c.in-Some.ensures ∙ ap (λ (xs : List (ℕ × Bor Term)). looked_up c.args.number (found_pairs xs)) c.as_slice.ensures.value)
    (λ same. let clash : true ≡ false = sym (c.same.ensures.1 same) ∙ c.if-same.false in cc)
