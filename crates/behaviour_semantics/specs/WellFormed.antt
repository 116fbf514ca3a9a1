-- Well-formed behaviours and specifications over a signature.
use Rattle.std.specs.Prelude.{◌≡◌, ◌≢◌, ◌<◌, ℕ, List, [], ◌∷◌, ◌++◌, length, nat_eq, if◌then◌else◌, slice_get, Option, None, Some}
use Rattle.lotos_base.specs.Signature.{Signature, IsSort, IsWellFormedSignature}
use Rattle.lotos_base.specs.Term.{Term}
use Rattle.lotos_base.specs.Sorting.{HasSort, IsGroundOf, Occurs}
use Rattle.lotos_base.specs.Equation.{Data, Variable}
use Rattle.lotos_base.specs.Canon.{IsCanon}
use Rattle.behaviour_semantics.specs.Behaviour.{Behaviour, stop, exit_with, action, inner_action, guard, choice, parallel, hide, enable, disable, let_be, choose_value, choose_gate, par_gate, call, relabel, Test, Offer, give, ask, ExitValue, exit_value, any_of, SynchronisationSet, no_gates, all_gates, at_gates, Process, Specification, Relabelling, asked_variables, numbers_of, let_variables, let_terms}
use Rattle.behaviour_semantics.specs.Label.{Label, inner_event, gate_event, exit_event, formals_of}

-- Each member of the list has the property.
abbrev pub Every : {X : Type 0} → (X → Type 0) → List X → Type 0
Every P [] = Unit {0}
Every P (x ∷ xs) = P x × Every P xs

-- The members of the list are distinct.
abbrev pub AreDistinct : List ℕ → Type 0
AreDistinct numbers = (i j n : ℕ) → slice_get numbers i ≡ Some n → slice_get numbers j ≡ Some n → i ≡ j

-- The sort of the variable with this number in scope. The innermost one, which comes first, counts.
abbrev pub sort_in : List Variable → ℕ → Option ℕ
sort_in [] n = None
sort_in (x ∷ scope) n = if nat_eq x.number n then Some x.sort else sort_in scope n

-- The term is of the signature, has this sort, and each variable in it is in scope with the sort that it has there.
pub record IsTermIn (signature : Signature) (scope : List Variable) (sort : ℕ) (term : Term) : Type 0 where
  pub sorted : HasSort signature term sort
  pub bound : (n s : ℕ) → Occurs n s term → sort_in scope n ≡ Some s

-- The two sides of the test have one sort.
pub record IsTestIn (signature : Signature) (scope : List Variable) (test : Test) : Type 0 where
  pub sort : ℕ
  pub left : IsTermIn signature scope sort test.left
  pub right : IsTermIn signature scope sort test.right

-- The terms have the sorts of the variables, one by one.
abbrev pub AreTermsIn : Signature → List Variable → List Variable → List Term → Type 0
AreTermsIn signature scope [] [] = Unit {0}
AreTermsIn signature scope (x ∷ variables) (t ∷ terms) = IsTermIn signature scope x.sort t × AreTermsIn signature scope variables terms
AreTermsIn signature scope _ _ = ⊥

-- The variables that one binder binds: distinct numbers, and sorts of the signature.
abbrev pub AreBinders : Signature → List Variable → Type 0
AreBinders signature variables = AreDistinct (numbers_of variables) × Every (λ (x : Variable). IsSort signature x.sort) variables

-- A test, an offer and a value of `exit` are well formed in the scope.
abbrev pub IsTestOption : Signature → List Variable → Option Test → Type 0
IsTestOption signature scope None = Unit {0}
IsTestOption signature scope (Some test) = IsTestIn signature scope test

abbrev pub IsOffer : Signature → List Variable → Offer → Type 0
IsOffer signature scope (give t) = (sort : ℕ) × IsTermIn signature scope sort t
IsOffer signature scope (ask x) = IsSort signature x.sort

abbrev pub IsExitValue : Signature → List Variable → ExitValue → Type 0
IsExitValue signature scope (exit_value t) = (sort : ℕ) × IsTermIn signature scope sort t
IsExitValue signature scope (any_of s) = IsSort signature s

-- Each gate of the list has a name: its number is below the number of names.
abbrev pub AreGates : ℕ → List ℕ → Type 0
AreGates names gates = Every (λ g. g < names) gates

-- The gates at which sides synchronise have names.
abbrev pub IsSynchronisationSet : ℕ → SynchronisationSet → Type 0
IsSynchronisationSet names no_gates = Unit {0}
IsSynchronisationSet names all_gates = Unit {0}
IsSynchronisationSet names (at_gates gates) = AreGates names gates

-- The call's process exists and is given its number of gates and values of its parameters' sorts.
pub record IsCall (signature : Signature) (processes : List Process) (scope : List Variable) (number : ℕ) (gates : List ℕ)
    (arguments : List Term) : Type 0 where
  pub process : Process
  pub exists : slice_get processes number ≡ Some process
  pub gate_count : length gates ≡ length process.gates
  pub values : AreTermsIn signature scope process.parameters arguments

-- The pairs of a relabelling name gates, and its formal gates are distinct.
abbrev pub IsRelabelling : ℕ → Relabelling → Type 0
IsRelabelling names pairs = AreDistinct (formals_of pairs) × Every (λ (pair : ℕ × ℕ). (pair.0 < names) × (pair.1 < names)) pairs

-- The behaviour is well formed over the signature, with so many gate names, these processes, and these variables in
-- scope, the innermost first.
abbrev pub IsBehaviour : Signature → ℕ → List Process → List Variable → Behaviour → Type 0
IsBehaviour signature names processes scope stop = Unit {0}
IsBehaviour signature names processes scope (exit_with results) = Every (IsExitValue signature scope) results
IsBehaviour signature names processes scope (action g offers test b) =
    let inside : List Variable = asked_variables offers ++ scope in
    (g < names) × Every (IsOffer signature scope) offers × AreBinders signature (asked_variables offers)
    × IsTestOption signature inside test × IsBehaviour signature names processes inside b
IsBehaviour signature names processes scope (inner_action b) = IsBehaviour signature names processes scope b
IsBehaviour signature names processes scope (guard test b) = IsTestIn signature scope test × IsBehaviour signature names processes scope b
IsBehaviour signature names processes scope (choice b c) = IsBehaviour signature names processes scope b
    × IsBehaviour signature names processes scope c
IsBehaviour signature names processes scope (parallel meet b c) = IsSynchronisationSet names meet
    × IsBehaviour signature names processes scope b × IsBehaviour signature names processes scope c
IsBehaviour signature names processes scope (hide gates b) = AreGates names gates × IsBehaviour signature names processes scope b
IsBehaviour signature names processes scope (enable b variables c) =
    IsBehaviour signature names processes scope b × AreBinders signature variables
    × IsBehaviour signature names processes (variables ++ scope) c
IsBehaviour signature names processes scope (disable b c) = IsBehaviour signature names processes scope b
    × IsBehaviour signature names processes scope c
IsBehaviour signature names processes scope (let_be bindings b) =
    AreBinders signature (let_variables bindings) × AreTermsIn signature scope (let_variables bindings) (let_terms bindings)
    × IsBehaviour signature names processes (let_variables bindings ++ scope) b
IsBehaviour signature names processes scope (choose_value x b) = IsSort signature x.sort
    × IsBehaviour signature names processes (x ∷ scope) b
IsBehaviour signature names processes scope (choose_gate g gates b) = (g < names) × AreGates names gates
    × IsBehaviour signature names processes scope b
IsBehaviour signature names processes scope (par_gate g gates meet b) = (g < names) × (gates ≢ []) × AreGates names gates
    × IsSynchronisationSet names meet × IsBehaviour signature names processes scope b
IsBehaviour signature names processes scope (call number gates arguments) = AreGates names gates
    × IsCall signature processes scope number gates arguments
IsBehaviour signature names processes scope (relabel pairs b) = IsRelabelling names pairs × IsBehaviour signature names processes scope b

-- The behaviour is closed and well formed over the specification: no variable is free in it.
abbrev pub IsClosedBehaviour : Signature → Specification → Behaviour → Type 0
IsClosedBehaviour signature specification b = IsBehaviour signature (length specification.gate_names) specification.processes [] b

-- A functionality names sorts of the signature.
abbrev pub IsFunctionality : Signature → Option (List ℕ) → Type 0
IsFunctionality signature None = Unit {0}
IsFunctionality signature (Some sorts) = Every (IsSort signature) sorts

-- A heading and its body are well formed: distinct formal gates with names, parameters with distinct numbers and
-- sorts of the signature, which alone are free in the body.
pub record IsDefinition (signature : Signature) (names : ℕ) (processes : List Process) (gates : List ℕ) (parameters : List Variable)
    (exit : Option (List ℕ)) (body : Behaviour) : Type 0 where
  pub distinct_gates : AreDistinct gates
  pub named_gates : AreGates names gates
  pub binders : AreBinders signature parameters
  pub functionality : IsFunctionality signature exit
  pub behaviour : IsBehaviour signature names processes parameters body

-- The specification is well formed over the signature: its heading and body are, and those of each process.
pub record IsSpecification (signature : Signature) (specification : Specification) : Type 0 where
  pub whole : IsDefinition signature (length specification.gate_names) specification.processes specification.gates specification.parameters
      specification.exit specification.body
  pub each : Every (λ (p : Process). IsDefinition signature (length specification.gate_names) specification.processes p.gates p.parameters
      p.exit p.body) specification.processes

-- The label is closed and well formed over the specification: its gate has a name, and its values are ground terms of
-- the signature.
abbrev pub IsClosedLabel : Signature → Specification → Label → Type 0
IsClosedLabel signature specification inner_event = Unit {0}
IsClosedLabel signature specification (gate_event g values) =
    (g < length specification.gate_names) × Every (λ v. (sort : ℕ) × IsGroundOf signature sort v) values
IsClosedLabel signature specification (exit_event values) = Every (λ v. (sort : ℕ) × IsGroundOf signature sort v) values

-- The data have a canon over a well-formed signature, and the behaviour is closed and well formed over the
-- specification, which is well formed too.
pub record AreOver (data_ : Data) (canon : Term → Term) (specification : Specification) (b : Behaviour) : Type 0 where
  pub signature : IsWellFormedSignature data_.signature
  pub is_canon : IsCanon data_ canon
  pub well_formed : IsSpecification data_.signature specification
  pub closed : IsClosedBehaviour data_.signature specification b
