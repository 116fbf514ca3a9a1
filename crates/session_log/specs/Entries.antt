-- Entries of menus of the code, and values for them.
use Rattle.std.specs.Prelude.{◌≡◌, ℕ, suc, List, Option, None, Some, slice_get}
use Rattle.lotos_base.specs.Signature.{Signature}
use Rattle.lotos_base.specs.Sorting.{IsGround}
use Rattle.lotos_base.specs.Term.{Term}
use Rattle.lotos_base.specs.Equation.{Data}
use Rattle.behaviour_semantics.specs.Rule.{AreValues}
use Rattle.behaviour_semantics.specs.WellFormed.{Every}
use Rattle.behaviour_tree.specs.BehaviourTerms.{profiles_of}
use Rattle.behaviour_tree.specs.BehaviourView.{terms_of}
use Rattle.behaviour_tree.specs.MoveView.{derivation_of}
use Rattle.behaviour_tree.specs.Over.{AreTermsOf}
use Rattle.behaviour_tree.specs.declared.moves.Derivation.{Derivation}
use Rattle.menu_builder.specs.HandedOn.{canonical_derivation, plain_entry, Entry, Menu, menu_entries}
use Rattle.sort_terms.specs.SortedView.{term_in}
use Rattle.sort_terms.specs.declared.sorted.Sorted.{Sorted}
use Rattle.session_histories.specs.Refusal.{StepRefusal, value_sort}

-- The entry has this number in the menu, from 1.
pub record IsEntryAt (menu : Menu) (number : ℕ) (entry : Entry) : Type 0 where
  pub position : ℕ
  pub numbered : number ≡ suc position
  pub found : slice_get (menu_entries menu) position ≡ Some entry

-- The values are ground terms of the signature.
pub record AreGiven (signature : Signature) (values : List Sorted) : Type 0 where
  pub terms : AreTermsOf signature (profiles_of values)
  pub ground : Every (λ (value : Sorted). IsGround (term_in value)) values

-- The values are ground, one for each variable of the entry, of its sort, and the derivation is that of the entry with these
-- values, in canonical form.
pub record IsDerivationFor (data_ : Data) (canon : Term → Term) (entry : Entry) (values : List Sorted) (derivation : Derivation)
    : Type 0 where
  pub sorted : AreValues data_.signature entry.vars.items (terms_of values)
  pub same : derivation_of derivation ≡ canonical_derivation canon (plain_entry entry) (terms_of values)
  pub leaves : AreTermsOf data_.signature (profiles_of derivation.leaves.items)

-- the refusal for a value of another sort
abbrev pub sort_told : Option ℕ → Option StepRefusal
sort_told None = None
sort_told (Some variable) = Some (value_sort variable)
