-- Closed values have nothing put into them.
use Rattle.std.proofs.Common.{◌≡◌, ℕ, List, map, ap, ◌∙◌, []}
use Rattle.lotos_base.specs.Substitution.{substituted, binding}
use Rattle.behaviour_tree.specs.BehaviourView.{terms_of}
use Rattle.behaviour_tree.proofs.NodeLemmas.{nothing_put}
use Rattle.sort_terms.specs.declared.sorted.Sorted.{Sorted}
use Rattle.behaviour_tree.specs.TermDigests.{list_digest}

pub closed_values : (n : ℕ) (values : List Sorted) → n ≡ list_digest 0 (map (substituted (binding [])) (terms_of values))
    → n ≡ list_digest 0 (terms_of values)
closed_values n values e = e ∙ ap (list_digest 0) (nothing_put (terms_of values))
