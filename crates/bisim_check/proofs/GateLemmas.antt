-- Gates of two specifications, compared by their names.
use Rattle.std.proofs.Common.{◌≡◌, ◌↔◌, IsTrue, ℕ, List, Bool, false, map, None, Some, slice_get, sym, ◌∙◌, subst}
use Rattle.std.proofs.lemmas.Option.{none-some}
use Rattle.lotos_base.proofs.Members.{at_map, past_map}
use Rattle.lotos_base.specs.Name.{spelling, AreSame, AreOneName}
use Rattle.lotos_base.specs.declared.names.Name.{Name}
use Rattle.behaviour_semantics.proofs.OptionLemmas.{some_value}
use Rattle.behaviour_tree.specs.DefinitionView.{specification_of}
use Rattle.behaviour_tree.specs.declared.definitions.Spec.{Spec}
use Rattle.certificate_theory.specs.Agreement.{AreOneGate}
use Rattle.bisim_check.proofs.DataLemmas.{never}

-- one of the gates has no name
pub no_gate : (one other : Spec) (gate other_gate : ℕ) → slice_get one.gate_names.items gate ≡ None
    → IsTrue false ↔ AreOneGate (specification_of one) (specification_of other) gate other_gate
no_gate one other gate other_gate none = (
  (λ h. absurd (never h)),
  (λ g. absurd (none-some g.name (sym (past_map spelling one.gate_names.items gate none) ∙ g.named))),
)

pub no_other_gate : (one other : Spec) (gate other_gate : ℕ) → slice_get other.gate_names.items other_gate ≡ None
    → IsTrue false ↔ AreOneGate (specification_of one) (specification_of other) gate other_gate
no_other_gate one other gate other_gate none = (
  (λ h. absurd (never h)),
  (λ g. absurd (none-some g.other_name (sym (past_map spelling other.gate_names.items other_gate none) ∙ g.other_named))),
)

-- both have one
pub gates_told : (r : Bool) (one other : Spec) (gate other_gate : ℕ) (name other_name : Name)
    → slice_get one.gate_names.items gate ≡ Some name → slice_get other.gate_names.items other_gate ≡ Some other_name
    → IsTrue r ↔ AreSame name other_name
    → IsTrue r ↔ AreOneGate (specification_of one) (specification_of other) gate other_gate
gates_told r one other gate other_gate name other_name here there told =
    let named : slice_get (map spelling one.gate_names.items) gate ≡ Some (spelling name) =
    at_map spelling one.gate_names.items gate name here in
    let other_named : slice_get (map spelling other.gate_names.items) other_gate ≡ Some (spelling other_name) =
    at_map spelling other.gate_names.items other_gate other_name there in (
      (λ h. record {
        name = spelling name;
        other_name = spelling other_name;
        named = named;
        other_named = other_named;
        same = told.0 h;
      }),
      (λ g. told.1 (subst (λ (it : List ℕ). AreOneName it (spelling other_name)) (some_value (sym g.named ∙ named))
          (subst (AreOneName g.name) (some_value (sym g.other_named ∙ other_named)) g.same))),
    )
