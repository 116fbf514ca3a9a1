-- What terms of the code stand for.
use Rattle.std.proofs.Common.{◌≡◌, ◌<◌, ◌≤◌, ◌+◌, ℕ, List, ◌∷◌, drop, get_or, length, ap, sym, ◌∙◌}
use Rattle.std.proofs.lemmas.List.{drop_more}
use Rattle.std.proofs.Math.ListN.{drop_of_length-le}
use Rattle.sort_terms.specs.ProfiledTerm.{no_profiled_terms, profiled_term_then}
use Rattle.sort_terms.specs.TermView.{profiled_of, all_profiled}
use Rattle.sort_terms.specs.declared.terms.Term.{Term}

-- the terms from a position on begin with the one there
pub profiled_rest : (terms : List Term) (i : ℕ) (t : Term) → i < length terms → t ≡ get_or terms i t
    → all_profiled (drop i terms) ≡ profiled_term_then (profiled_of t) (all_profiled (drop (i + 1) terms))
profiled_rest terms i t within is =
    ap all_profiled (drop_more terms i t within ∙ ap (λ (u : Term). u ∷ drop (i + 1) terms) (sym is))

pub profiled_end : (terms : List Term) (i : ℕ) → length terms ≤ i → all_profiled (drop i terms) ≡ no_profiled_terms
profiled_end terms i end = ap all_profiled (drop_of_length-le terms end)
