-- Behaviours beside one another without leaf variables are alike.
use Rattle.std.proofs.Common.{◌≡◌, ◌⊎◌, inl, inr, ℕ, List, Option, refl, sym, ◌∙◌}
use Rattle.lotos_base.specs.Term.{Term}
use Rattle.lotos_base.specs.Sorting.{IsGroundOf, Occurs}
use Rattle.lotos_base.specs.Equation.{Data, Variable}
use Rattle.lotos_base.specs.Substitution.{Substitution, IsGrounding}
use Rattle.lotos_base.proofs.SubstitutionLemmas.{substituted_agree}
use Rattle.lotos_base.proofs.EqualityLemmas.{equal_then, equal_same}
use Rattle.behaviour_semantics.specs.Behaviour.{Behaviour, Test, Offer, ExitValue, Process}
use Rattle.behaviour_semantics.specs.Label.{Label}
use Rattle.behaviour_semantics.specs.Alike.{AlikeTerms, AllAlike, AlikeTests, AlikeOptions, AlikeOffers, AlikeResults, AlikeLabels, Alike}
use Rattle.behaviour_semantics.proofs.RelatedTerms.{with_leaves, with_leaves-bound, Placed, Related, RelatedTerms, none_related, one_related}
use Rattle.behaviour_semantics.proofs.RelatedBehaviours.{RelatedTests, RelatedOptions, no_tests, some_tests, RelatedOffers, no_offers, both_give, both_ask, RelatedResults, no_results, both_values, both_any, Beside, both_stop, both_exit_with, both_action, both_inner, both_guard, both_choice, both_parallel, both_hide, both_enable, both_disable, both_let, both_choose_value, both_choose_gate, both_par_gate, both_call, both_relabel}
use Rattle.behaviour_semantics.proofs.RelatedMoves.{RelatedLabels, both_inner_events, both_gate_events, both_exit_events}
use Rattle.behaviour_semantics.proofs.InstanceLemmas.{plain, plain_grounded}

module _ (data_ : Data) (base : ℕ) (represent other_represent : Term → Term) (leaves other_leaves : Substitution) where
  one_side : (f : Term → Term) (l : Substitution) (scope : List Variable) (values : Substitution) (n r : ℕ)
      → Placed data_ base (plain f l) scope n r → values n r ≡ with_leaves base (plain f l) values n r
  one_side f l scope values n r (inl h) = sym (with_leaves-bound base (plain f l) values n r h.0)
  one_side f l scope values n r (inr h) = absurd h.1

  alike_term : {scope : List Variable} {s : ℕ} {t u : Term} → Related data_ base (plain represent leaves)
      (plain other_represent other_leaves) scope s t u → AlikeTerms data_ t u
  alike_term {scope = scope} {t = t} {u = u} r = λ values left right.
      equal_then (equal_same data_ _ _ (substituted_agree values (with_leaves base (plain represent leaves) values) t
      (λ n q o. one_side represent leaves scope values n q (r.left_free n q o))))
      (equal_then (r.equal (plain_grounded data_ represent leaves) (plain_grounded data_ other_represent other_leaves) values
      (λ n q lt o. grounds values left right n q o))
      (equal_same data_ _ _ (sym (substituted_agree values (with_leaves base (plain other_represent other_leaves) values) u
      (λ n q o. one_side other_represent other_leaves scope values n q (r.right_free n q o))))))
    where
      grounds : (values : Substitution) → IsGrounding data_.signature t values → IsGrounding data_.signature u values → (n q : ℕ)
          → Occurs n q t ⊎ Occurs n q u → IsGroundOf data_.signature q (values n q)
      grounds values left right n q (inl o) = left n q o
      grounds values left right n q (inr o) = right n q o

  alike_terms : {scope : List Variable} {sorts : List ℕ} {ts us : List Term}
      → RelatedTerms data_ base (plain represent leaves) (plain other_represent other_leaves) scope sorts ts us → AllAlike data_ ts us
  alike_terms none_related = tt
  alike_terms (one_related r rest) = (alike_term r, alike_terms rest)

  alike_tests : {scope : List Variable} {test other : Test} → RelatedTests data_ base (plain represent leaves)
      (plain other_represent other_leaves) scope test other → AlikeTests data_ test other
  alike_tests r = (alike_term r.left, alike_term r.right)

  alike_options : {scope : List Variable} {test other : Option Test} → RelatedOptions data_ base (plain represent leaves)
      (plain other_represent other_leaves) scope test other → AlikeOptions data_ test other
  alike_options no_tests = tt
  alike_options (some_tests r) = alike_tests r

  alike_offers : {scope variables : List Variable} {offers others : List Offer}
      → RelatedOffers data_ base (plain represent leaves) (plain other_represent other_leaves) scope variables offers others
      → AlikeOffers data_ offers others
  alike_offers no_offers = tt
  alike_offers (both_give r rest) = (alike_term r, alike_offers rest)
  alike_offers (both_ask z rest) = (refl, alike_offers rest)

  alike_results : {scope : List Variable} {sorts : List ℕ} {results others : List ExitValue}
      → RelatedResults data_ base (plain represent leaves) (plain other_represent other_leaves) scope sorts results others
      → AlikeResults data_ results others
  alike_results no_results = tt
  alike_results (both_values r rest) = (alike_term r, alike_results rest)
  alike_results (both_any s is_sort rest) = (refl, alike_results rest)

  pub alike_labels : {processes : List Process} {label other : Label}
      → RelatedLabels data_ base processes (plain represent leaves) (plain other_represent other_leaves) label other
      → AlikeLabels data_ label other
  alike_labels both_inner_events = tt
  alike_labels (both_gate_events sorts r) = (refl, alike_terms r)
  alike_labels (both_exit_events sorts r) = alike_terms r

  pub alike_behaviours : {processes : List Process} {scope : List Variable} {b c : Behaviour}
      → Beside data_ base processes (plain represent leaves) (plain other_represent other_leaves) scope b c → Alike data_ b c
  alike_behaviours both_stop = tt
  alike_behaviours (both_exit_with r) = alike_results r
  alike_behaviours (both_action r binders tests rest) = (refl, alike_offers r, alike_options tests, alike_behaviours rest)
  alike_behaviours (both_inner r) = alike_behaviours r
  alike_behaviours (both_guard r q) = (alike_tests r, alike_behaviours q)
  alike_behaviours (both_choice r q) = (alike_behaviours r, alike_behaviours q)
  alike_behaviours (both_parallel r q) = (refl, alike_behaviours r, alike_behaviours q)
  alike_behaviours (both_hide r) = (refl, alike_behaviours r)
  alike_behaviours (both_enable r binders q) = (alike_behaviours r, refl, alike_behaviours q)
  alike_behaviours (both_disable r q) = (alike_behaviours r, alike_behaviours q)
  alike_behaviours (both_let variables e e' binders terms r) = (e ∙ sym e', alike_terms terms, alike_behaviours r)
  alike_behaviours (both_choose_value binders r) = (refl, alike_behaviours r)
  alike_behaviours (both_choose_gate r) = (refl, refl, alike_behaviours r)
  alike_behaviours (both_par_gate r) = (refl, refl, refl, alike_behaviours r)
  alike_behaviours (both_call process at terms) = (refl, refl, alike_terms terms)
  alike_behaviours (both_relabel r) = (refl, alike_behaviours r)
