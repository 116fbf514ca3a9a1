-- Values that a node matches, pair by pair.
use Rattle.std.proofs.Common.{◌≡◌, ◌<◌, ◌≤◌, ◌+◌, ℕ, List, [], ◌∷◌, length, drop, get_or, Option, None, Some, ap, sym, ◌∙◌}
use Rattle.std.proofs.lemmas.List.{drop_all}
use Rattle.draft_parts.proofs.HandedOn.{pairwise_nothing}
use Rattle.lotos_base.specs.Term.{Term}
use Rattle.behaviour_semantics.specs.Behaviour.{Test}
use Rattle.behaviour_semantics.specs.Fault.{Wrong, first_unmet}
use Rattle.behaviour_semantics.specs.Rule.{pairwise}
use Rattle.sort_terms.specs.SortedView.{term_in}
use Rattle.sort_terms.specs.declared.sorted.Sorted.{Sorted}
use Rattle.behaviour_tree.specs.BehaviourView.{terms_of}
use Rattle.step_parts.proofs.OfferLemmas.{rest_is}
use Rattle.step_parts.proofs.TestLemmas.{carried, met}

module _ (canon : Term → Term) (lefts rights : List Sorted) where
  -- what is unmet from a pair on
  abbrev pub unmet_from : ℕ → Option Wrong
  unmet_from i = first_unmet canon (pairwise (terms_of (drop i lefts)) (terms_of (drop i rights)))

  module _ (i : ℕ) (l r : Sorted) (left_within : i < length lefts) (left_is : l ≡ get_or lefts i l) (right_within : i < length rights)
      (right_is : r ≡ get_or rights i r) where
    abbrev pair : Test
    pair = record { left = term_in l; right = term_in r }

    here : unmet_from i ≡ first_unmet canon (pair ∷ pairwise (terms_of (drop (i + 1) lefts)) (terms_of (drop (i + 1) rights)))
    here =
        ap (λ (xs : List Sorted). first_unmet canon (pairwise (terms_of xs) (terms_of (drop i rights)))) (rest_is lefts i l left_within
        left_is)
        ∙ ap (λ (xs : List Sorted). first_unmet canon (pairwise (terms_of (l ∷ drop (i + 1) lefts)) (terms_of xs)))
        (rest_is rights i r right_within right_is)

    pub met_here : canon (term_in l) ≡ canon (term_in r) → unmet_from (i + 1) ≡ unmet_from i
    met_here e = sym (here ∙ met canon pair (pairwise (terms_of (drop (i + 1) lefts)) (terms_of (drop (i + 1) rights))) e)

    pub unmet_here : (w : Wrong) → first_unmet canon (pair ∷ []) ≡ Some w → unmet_from i ≡ Some w
    unmet_here w e = here ∙ carried canon pair (pairwise (terms_of (drop (i + 1) lefts)) (terms_of (drop (i + 1) rights))) w e

  pub none_left : (i : ℕ) → length lefts ≤ i → unmet_from i ≡ None
  none_left i h = ap (λ (xs : List Sorted). first_unmet canon (pairwise (terms_of xs) (terms_of (drop i rights)))) (drop_all i lefts h)

  pub none_right : (i : ℕ) → length rights ≤ i → unmet_from i ≡ None
  none_right i h =
      ap (λ (xs : List Sorted). first_unmet canon (pairwise (terms_of (drop i lefts)) (terms_of xs))) (drop_all i rights h)
      ∙ ap (first_unmet canon) (pairwise_nothing (terms_of (drop i lefts)))
