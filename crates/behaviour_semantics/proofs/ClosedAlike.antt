-- Nothing is put into a ground term, so ground terms are alike exactly where they are equal.
use Rattle.std.proofs.Common.{List, [], ◌∷◌, sym}
use Rattle.std.specs.Prelude.{◌↔◌}
use Rattle.lotos_base.specs.Term.{Term, variable}
use Rattle.lotos_base.specs.Sorting.{IsGround}
use Rattle.lotos_base.specs.Equation.{Data}
use Rattle.lotos_base.specs.Equality.{Equal}
use Rattle.lotos_base.proofs.SubstitutionLemmas.{substituted_ground}
use Rattle.lotos_base.proofs.EqualityLemmas.{equal_then, equal_same}
use Rattle.lotos_base.proofs.CanonLemmas.{grounding_of_ground}
use Rattle.behaviour_semantics.specs.Label.{Label, inner_event, gate_event, exit_event}
use Rattle.behaviour_semantics.specs.Rule.{label_values}
use Rattle.behaviour_semantics.specs.Menu.{EqualTerms, EqualLabels}
use Rattle.behaviour_semantics.specs.Alike.{AlikeTerms, AllAlike, AlikeLabels}
use Rattle.behaviour_semantics.specs.WellFormed.{Every}

pub ground_terms : (data_ : Data) (t u : Term) → IsGround t → IsGround u → AlikeTerms data_ t u ↔ Equal data_ t u
ground_terms data_ t u g h = (
  (λ alike. equal_then (equal_same data_ _ _ (sym (substituted_ground variable t g)))
      (equal_then (alike variable (grounding_of_ground data_.signature t variable g) (grounding_of_ground data_.signature u variable h))
      (equal_same data_ _ _ (substituted_ground variable u h)))),
  (λ equal values left right. equal_then (equal_same data_ _ _ (substituted_ground values t g))
      (equal_then equal (equal_same data_ _ _ (sym (substituted_ground values u h))))),
)

pub ground_lists : (data_ : Data) (ts us : List Term) → Every IsGround ts → Every IsGround us
    → AllAlike data_ ts us ↔ EqualTerms data_ ts us
ground_lists data_ [] [] g h = ((λ k. tt), (λ k. tt))
ground_lists data_ [] (u ∷ us) g h = ((λ k. absurd k), (λ k. absurd k))
ground_lists data_ (t ∷ ts) [] g h = ((λ k. absurd k), (λ k. absurd k))
ground_lists data_ (t ∷ ts) (u ∷ us) g h =
    let first = ground_terms data_ t u g.0 h.0 in
    let rest = ground_lists data_ ts us g.1 h.1 in
    ((λ k. (first.0 k.0, rest.0 k.1)), (λ k. (first.1 k.0, rest.1 k.1)))

pub closed_labels : (data_ : Data) (label other : Label) → Every IsGround (label_values label) → Every IsGround (label_values other)
    → AlikeLabels data_ label other ↔ EqualLabels data_ label other
closed_labels data_ inner_event inner_event g h = ((λ k. tt), (λ k. tt))
closed_labels data_ (gate_event a ts) (gate_event b us) g h =
    let values = ground_lists data_ ts us g h in
    ((λ k. (k.0, values.0 k.1)), (λ k. (k.0, values.1 k.1)))
closed_labels data_ (exit_event ts) (exit_event us) g h = ground_lists data_ ts us g h
closed_labels data_ inner_event (gate_event b us) g h = ((λ k. absurd k), (λ k. absurd k))
closed_labels data_ inner_event (exit_event us) g h = ((λ k. absurd k), (λ k. absurd k))
closed_labels data_ (gate_event a ts) inner_event g h = ((λ k. absurd k), (λ k. absurd k))
closed_labels data_ (gate_event a ts) (exit_event us) g h = ((λ k. absurd k), (λ k. absurd k))
closed_labels data_ (exit_event ts) inner_event g h = ((λ k. absurd k), (λ k. absurd k))
closed_labels data_ (exit_event ts) (gate_event b us) g h = ((λ k. absurd k), (λ k. absurd k))
