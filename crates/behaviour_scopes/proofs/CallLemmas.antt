-- What a call stands for, from its process, its gates and its values.
use Rattle.std.proofs.Common.{◌≡◌, ℕ, List, length, inl, inr, ap, sym, ◌∙◌}
use Rattle.std.specs.Prelude.{Result, IsErrAnd}
use Rattle.std.proofs.lemmas.List.{length-map}
use Rattle.lotos_base.specs.WrittenTerm.{PlacedName, WrittenTerm}
use Rattle.lotos_base.specs.WrittenView.{placed_name_of, written_term_of, written_terms_of}
use Rattle.lotos_base.specs.declared.names.Name.{Name}
use Rattle.lotos_base.specs.declared.places.Place as code
use Rattle.lotos_base.specs.declared.written_terms.Written.{Written}
use Rattle.syntax_trees.specs.TreeViews.{placed_names_of}
use Rattle.lotos_base.specs.Equation.{Place}
use Rattle.behaviour_tree.specs.BehaviourView.{behaviour_of}
use Rattle.behaviour_tree.specs.declared.behaviours.Beh.{Beh}
use Rattle.scope_parts.specs.Behaviours.{CallIs, called_at, counted_call}
use Rattle.scope_parts.specs.FaultView.{Answers, FaultIs}
use Rattle.scope_parts.specs.Resolution.{Resolution, resolved, faulty, and_then}
use Rattle.scope_parts.specs.Scope.{Callable, gates_at}
use Rattle.scope_parts.specs.Terms.{ValuesAre}
use Rattle.scope_parts.specs.declared.scope_faults.ScopeFault as fault
use Rattle.scope_parts.proofs.AnswerLemmas.{err_is, means_map}
use Rattle.behaviour_scopes.specs.ResolverState.{State}

-- the process with as many gates and values as the code counts
pub counted_as : (found : Resolution Callable) (place : Place) (names : List (code.Place × Name)) (values : List Written) (m n : ℕ)
    (o : Resolution Callable) → m ≡ length names → n ≡ length values → o ≡ and_then found (counted_call place m n)
    → o ≡ and_then found (counted_call place (length (placed_names_of names)) (length (written_terms_of values)))
counted_as found place names values m n o many few is =
    is ∙ ap (λ (k : ℕ). and_then found (counted_call place k n)) (many ∙ sym (length-map names placed_name_of))
    ∙ ap (λ (k : ℕ). and_then found (counted_call place (length (placed_names_of names)) k))
    (few ∙ sym (length-map values written_term_of))

-- ---- The faults of a call

pub process_fault : (s : State) (place : Place) (name : List ℕ) (gates : List PlacedName) (values : List WrittenTerm)
    (result : Result Beh fault.ScopeFault) (e : fault.ScopeFault) → IsErrAnd result (λ x. x ≡ e)
    → FaultIs e (λ f. faulty f ≡ called_at s.scope place name (length gates) (length values))
    → Answers behaviour_of result (CallIs s.signature s.scope place name gates values)
process_fault s place name gates values result e is means =
    err_is behaviour_of result e (CallIs s.signature s.scope place name gates values) is
    (means_map e (λ f. faulty f ≡ called_at s.scope place name (length gates) (length values))
    (λ f. CallIs s.signature s.scope place name gates values (faulty f)) (λ f h. inl h) means)

pub gates_fault : (s : State) (place : Place) (name : List ℕ) (gates : List PlacedName) (values : List WrittenTerm) (callable : Callable)
    (result : Result Beh fault.ScopeFault) (e : fault.ScopeFault)
    → resolved callable ≡ called_at s.scope place name (length gates) (length values) → IsErrAnd result (λ x. x ≡ e)
    → FaultIs e (λ f. faulty f ≡ gates_at s.scope.gates gates)
    → Answers behaviour_of result (CallIs s.signature s.scope place name gates values)
gates_fault s place name gates values callable result e first is means =
    err_is behaviour_of result e (CallIs s.signature s.scope place name gates values) is
    (means_map e (λ f. faulty f ≡ gates_at s.scope.gates gates)
    (λ f. CallIs s.signature s.scope place name gates values (faulty f)) (λ f h. inr (callable, first, inl h)) means)

pub values_fault : (s : State) (place : Place) (name : List ℕ) (gates : List PlacedName) (values : List WrittenTerm) (callable : Callable)
    (numbers : List ℕ) (result : Result Beh fault.ScopeFault) (e : fault.ScopeFault)
    → resolved callable ≡ called_at s.scope place name (length gates) (length values)
    → resolved numbers ≡ gates_at s.scope.gates gates → IsErrAnd result (λ x. x ≡ e)
    → FaultIs e (λ f. ValuesAre s.signature s.scope.variables callable.sorts values (faulty f))
    → Answers behaviour_of result (CallIs s.signature s.scope place name gates values)
values_fault s place name gates values callable numbers result e first second is means =
    err_is behaviour_of result e (CallIs s.signature s.scope place name gates values) is
    (means_map e (λ f. ValuesAre s.signature s.scope.variables callable.sorts values (faulty f))
    (λ f. CallIs s.signature s.scope place name gates values (faulty f))
    (λ f h. inr (callable, first, inr (numbers, second, h))) means)
