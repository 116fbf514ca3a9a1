-- The label of an entry with values for its variables, in canonical form.
use Rattle.std.proofs.Common.{◌≡◌, ℕ, List, map, Vec, Global, ap, sym, ◌∙◌}
use Rattle.std.proofs.lemmas.Simd.{map-map}
use Rattle.lotos_base.specs.Substitution.{Substitution, substituted}
use Rattle.lotos_base.specs.Term.{Term}
use Rattle.behaviour_semantics.specs.Draft.{label_with}
use Rattle.behaviour_semantics.specs.Label.{gate_event, exit_event}
use Rattle.behaviour_semantics.specs.Solving.{label_in}
use Rattle.behaviour_tree.specs.BehaviourView.{terms_of}
use Rattle.behaviour_tree.specs.MoveView.{label_of}
use Rattle.behaviour_tree.specs.declared.moves.Label.{Label}
use Rattle.behaviour_tree.specs.declared.moves.Label.TheVariants.{Gate, Exit}
use Rattle.sort_terms.specs.declared.sorted.Sorted.{Sorted}

pub gate_label : (canon : Term → Term) (values : Substitution) (label : Label) (gate : ℕ) (terms : Vec Sorted Global)
    (made : List Sorted) → label ≡ Gate gate terms
    → terms_of made ≡ map (λ (t : Term). canon (substituted values t)) (terms_of terms.items)
    → gate_event gate (terms_of made) ≡ label_in canon (label_with values (label_of label))
gate_label canon values label gate terms made is same =
    ap (λ (ts : List Term). gate_event gate ts) (same ∙ sym (map-map canon (substituted values) (terms_of terms.items)))
    ∙ ap (λ (l : Label). label_in canon (label_with values (label_of l))) (sym is)

pub exit_label : (canon : Term → Term) (values : Substitution) (label : Label) (terms : Vec Sorted Global) (made : List Sorted)
    → label ≡ Exit terms → terms_of made ≡ map (λ (t : Term). canon (substituted values t)) (terms_of terms.items)
    → exit_event (terms_of made) ≡ label_in canon (label_with values (label_of label))
exit_label canon values label terms made is same =
    ap (λ (ts : List Term). exit_event ts) (same ∙ sym (map-map canon (substituted values) (terms_of terms.items)))
    ∙ ap (λ (l : Label). label_in canon (label_with values (label_of l))) (sym is)
