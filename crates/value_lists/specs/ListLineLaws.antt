-- A line that asks for a list comes to one thing at most.
use Rattle.std.specs.Prelude.{◌≡◌, ℕ, List}
use Rattle.lotos_base.specs.Signature.{IsWellFormedSignature}
use Rattle.lotos_base.specs.Term.{Term}
use Rattle.behaviour_semantics.specs.Solving.{Entry}
use Rattle.session_histories.specs.Session.{SessionBasis}
use Rattle.value_lists.specs.ListOutcome.{ListOutcome, EntryInstances, ValuesComeTo, InstancesComeTo}

abbrev pub ValuesHaveOneAnswer : Type 0
ValuesHaveOneAnswer = (basis : SessionBasis) (name : List ℕ) (size : ℕ) (one other : ListOutcome (List Term))
    → IsWellFormedSignature basis.data_.signature → ValuesComeTo basis name size one → ValuesComeTo basis name size other
    → one ≡ other

abbrev pub InstancesHaveOneAnswer : Type 0
InstancesHaveOneAnswer = (basis : SessionBasis) (menu : List Entry) (number size : ℕ) (one other : ListOutcome EntryInstances)
    → InstancesComeTo basis menu number size one → InstancesComeTo basis menu number size other → one ≡ other
