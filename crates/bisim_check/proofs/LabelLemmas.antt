-- Labels of the code, compared.
use Rattle.std.proofs.Common.{◌≡◌, ◌↔◌, IsTrue, ℕ, Bool, false, map, sym, subst}
use Rattle.std.specs.Prelude.{Vec}
use Rattle.std.specs.declared.alloc.Global.{Global}
use Rattle.behaviour_tree.specs.DefinitionView.{specification_of}
use Rattle.behaviour_tree.specs.MoveView.{label_of}
use Rattle.behaviour_tree.specs.declared.definitions.Spec.{Spec}
use Rattle.behaviour_tree.specs.declared.moves.Label.{Label}
use Rattle.behaviour_tree.specs.declared.moves.Label.TheVariants.{Gate, Exit}
use Rattle.certificate_theory.specs.Agreement.{AreOneGate, IdenticalLabels}
use Rattle.sort_terms.specs.SortedView.{term_in}
use Rattle.sort_terms.specs.declared.sorted.Sorted.{Sorted}
use Rattle.bisim_check.proofs.DataLemmas.{never}

module _ (one other : Spec) (label answer : Label) where
  -- what is told of labels that are known
  known : (r : Bool) (l a : Label) → label ≡ l → answer ≡ a
      → IsTrue r ↔ IdenticalLabels (specification_of one) (specification_of other) (label_of l) (label_of a)
      → IsTrue r ↔ IdenticalLabels (specification_of one) (specification_of other) (label_of label) (label_of answer)
  known r l a e f h =
      subst (λ (it : Label). IsTrue r ↔ IdenticalLabels (specification_of one) (specification_of other) (label_of it) (label_of answer))
      (sym e)
      (subst (λ (it : Label). IsTrue r ↔ IdenticalLabels (specification_of one) (specification_of other) (label_of l) (label_of it))
      (sym f) h)

  pub gates_differ : (gate other_gate : ℕ) (values others : Vec Sorted Global) → label ≡ Gate gate values
      → answer ≡ Gate other_gate others → (AreOneGate (specification_of one) (specification_of other) gate other_gate → ⊥)
      → IsTrue false ↔ IdenticalLabels (specification_of one) (specification_of other) (label_of label) (label_of answer)
  gates_differ gate other_gate values others e f differ =
      known false (Gate gate values) (Gate other_gate others) e f ((λ h. absurd (never h)), (λ h. absurd (differ h.0)))

  pub gates_same : (r : Bool) (gate other_gate : ℕ) (values others : Vec Sorted Global) → label ≡ Gate gate values
      → answer ≡ Gate other_gate others → AreOneGate (specification_of one) (specification_of other) gate other_gate
      → IsTrue r ↔ (map term_in values.items ≡ map term_in others.items)
      → IsTrue r ↔ IdenticalLabels (specification_of one) (specification_of other) (label_of label) (label_of answer)
  gates_same r gate other_gate values others e f same told =
      known r (Gate gate values) (Gate other_gate others) e f ((λ h. (same, told.0 h)), (λ h. told.1 h.1))

  pub exits_same : (r : Bool) (values others : Vec Sorted Global) → label ≡ Exit values → answer ≡ Exit others
      → IsTrue r ↔ (map term_in values.items ≡ map term_in others.items)
      → IsTrue r ↔ IdenticalLabels (specification_of one) (specification_of other) (label_of label) (label_of answer)
  exits_same r values others e f told = known r (Exit values) (Exit others) e f told
