-- What the code answers that lists values and instances.
use Rattle.std.specs.Prelude.{◌≡◌, ℕ, List, ◌++◌, map}
use Rattle.lotos_base.specs.Equation.{Data}
use Rattle.lotos_base.specs.Name.{spelling}
use Rattle.lotos_base.specs.Signature as plain
use Rattle.lotos_base.specs.Term.{Term}
use Rattle.lotos_base.specs.declared.names.Name.{Name}
use Rattle.behaviour_semantics.specs.Solving.{Entry}
use Rattle.rewriting_theory.specs.NormalForm.{Normalises}
use Rattle.rewriting_theory.specs.Rule.{Rule}
use Rattle.sort_terms.specs.SignatureView.{signature_of}
use Rattle.sort_terms.specs.declared.signatures.Signature.{Signature}
use Rattle.session_histories.specs.Session.{SessionBasis}
use Rattle.value_lists.specs.ListOutcome.{ListOutcome, AreListsOf, MayChoose}
use Rattle.value_lists.specs.ListText.{Printing}

-- The data have this signature, and their canonical forms are the normal forms by these rules.
pub record HasRules (basis : SessionBasis) (signature : plain.Signature) (rules : List Rule) : Type 0 where
  pub over : signature ≡ basis.data_.signature
  pub normal : Normalises rules basis.canon

-- The data and the canonical forms are these, and the gates have these names.
pub record IsPrintedFor (basis : SessionBasis) (data_ : Data) (canon : Term → Term) (gates : List Name) : Type 0 where
  pub same_data : data_ ≡ basis.data_
  pub same_canon : canon ≡ basis.canon
  pub named : map spelling gates ≡ basis.specification.gate_names

-- by what the code prints instances
abbrev pub printing_with : Signature → List Name → (Term → Term) → Printing
printing_with signature gates canon = record { signature = signature_of signature; gates = map spelling gates; canon = canon }

-- The line comes to an outcome, and its text is added.
abbrev pub AddsList : {A : Type 0} → (ListOutcome A → Type 0) → (ListOutcome A → List ℕ) → (before after : List ℕ) → Type 0
AddsList {A} Is text before after = (outcome : ListOutcome A) × Is outcome × (after ≡ before ++ text outcome)

-- The values that may be chosen for the variables of the entry are in these lists, and there are not too many.
pub record HasChoices (basis : SessionBasis) (entry : Entry) (size : ℕ) (choices : List (List Term)) : Type 0 where
  pub may : MayChoose basis size entry
  pub are : AreListsOf basis size entry.variables choices
