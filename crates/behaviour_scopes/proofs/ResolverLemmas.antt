-- What is known where a behaviour stands, once something was made visible or taken off again.
use Rattle.std.proofs.Common.{◌≡◌, ℕ, zero, suc, ◌+◌, ◌-◌, ◌<◌, ◌≤◌, List, [], ◌∷◌, ◌++◌, length, get_or, take, map, refl, ap, sym, ◌∙◌, subst, arith}
use Rattle.std.proofs.lemmas.List.{length-append, map-append, take_more, take-map, append-nil}
use Rattle.std.proofs.Math.Seq.{take-append_seam}
use Rattle.lotos_base.specs.WrittenTerm.{WrittenTerm}
use Rattle.lotos_base.specs.Signature.{Signature, IsSort}
use Rattle.lotos_base.specs.Term.{Term}
use Rattle.lotos_base.specs.Equation.{Variable}
use Rattle.sort_terms.specs.EquationView.{variable_of}
use Rattle.sort_terms.specs.declared.equations.Variable as code
use Rattle.sort_terms.specs.ProfiledTerm.{ProfiledTerm}
use Rattle.sort_terms.specs.Reading.{IsScopeOver}
use Rattle.syntax_trees.specs.WrittenVariable.{WrittenVariable}
use Rattle.syntax_trees.specs.WrittenBehaviour.{WrittenBehaviour, WrittenOffer, offer_value, offer_variable}
use Rattle.behaviour_semantics.specs.Behaviour.{Behaviour, Offer, asked_variables, let_variables}
use Rattle.behaviour_semantics.specs.WellFormed.{Every}
use Rattle.behaviour_tree.specs.Over.{AreTermsOf}
use Rattle.scope_parts.specs.Behaviours.{BehaviourIs, with_gates, with_variables}
use Rattle.scope_parts.specs.GatesDeclared.{Gates, declared}
use Rattle.behaviour_scopes.specs.Grown.{Grown}
use Rattle.scope_parts.specs.Numbering.{gates_in, variable_count, asked_for, past_gates, past_variables}
use Rattle.scope_parts.specs.Resolution.{Resolution, resolved}
use Rattle.behaviour_scopes.specs.ResolverState.{State, next_numbers_at, BehaviourStandsFor, behind_in_state, passed, seeing, with_first_variables, with_last_gates, gates_at_state, with_gates_declared}
use Rattle.scope_parts.specs.Scope.{Binding, first_double}
use Rattle.scope_parts.specs.Sorts.{placed_variables}
use Rattle.scope_parts.specs.Terms.{BindingsAre, let_names, LetIs, OffersFollow, OffersAre}
use Rattle.scope_parts.proofs.FormedLists.{HaveSorts, AreDeclared, one_declared, variable_formed, beside_of, same_resolved, over_more}
use Rattle.scope_parts.proofs.GateLemmas.{declared_visible, declared_names, cut_back}

-- ---- Scopes over a signature

every_taken : {A : Type 0} (P : A → Type 0) (n : ℕ) (xs : List A) → Every P xs → Every P (take n xs)
every_taken P zero xs every = tt
every_taken P (suc n) [] every = tt
every_taken P (suc n) (x ∷ xs) every = (every.0, every_taken P n xs every.1)

pub over_grown : (signature : Signature) (added old new : List Variable) → IsScopeOver signature old → HaveSorts signature added
    → Grown added old new → IsScopeOver signature new
over_grown signature added old new over sorted grown =
    subst (IsScopeOver signature) (sym grown.1)
    (over_more signature old (take grown.0 added) over
    (every_taken (λ (x : Variable). IsSort signature x.sort) grown.0 added sorted))

-- ---- Variables that are declared

bindings_declared : (signature : Signature) (variables : List Variable) (next : ℕ) (ws : List (WrittenVariable × WrittenTerm))
    (bs : List (Variable × Term)) → BindingsAre signature variables next ws (resolved bs)
    → AreDeclared signature next (length ws) (let_variables bs)
bindings_declared signature variables next [] bs is =
    subst (λ (xs : List (Variable × Term)). AreDeclared signature next 0 (let_variables xs)) (sym (same_resolved bs [] is))
    (record { numbered = tt; sorted = tt; counted = refl })
bindings_declared signature variables next (w ∷ ws) [] is = absurd is.2
bindings_declared signature variables next (w ∷ ws) (b ∷ bs) is =
    let here = variable_formed signature next w.0 is.1.0 is.1.1 in
    subst (λ (x : Variable × Term). AreDeclared signature next (suc (length ws)) (let_variables (x ∷ bs))) (sym (is.2.0 ∙ is.1.2.2))
    (one_declared signature next (length ws) is.1.0 (let_variables bs) here.0 here.1
    (bindings_declared signature variables (suc next) ws bs is.2.1))

pub let_declared : (signature : Signature) (variables : List Variable) (next : ℕ) (ws : List (WrittenVariable × WrittenTerm))
    (bs : List (Variable × Term)) → LetIs signature variables next ws (resolved bs)
    → AreDeclared signature next (length ws) (let_variables bs)
let_declared signature variables next ws bs is =
    let others : resolved bs ≡ is.0 = beside_of (first_double (placed_variables (let_names ws))) is.0 bs is.2 in
    bindings_declared signature variables next ws bs
    (subst (λ (r : Resolution (List (Variable × Term))). BindingsAre signature variables next ws r) (sym others) is.1)

follow_declared : (signature : Signature) (variables : List Variable) (next : ℕ) (ws : List WrittenOffer) (os : List Offer)
    → OffersFollow signature variables next ws (resolved os) → AreDeclared signature next (length (asked_for ws)) (asked_variables os)
follow_declared signature variables next [] os is =
    subst (λ (xs : List Offer). AreDeclared signature next 0 (asked_variables xs)) (sym (same_resolved os [] is))
    (record { numbered = tt; sorted = tt; counted = refl })
follow_declared signature variables next (offer_value term ∷ ws) [] is = absurd is.2
follow_declared signature variables next (offer_value term ∷ ws) (o ∷ os) is =
    subst (λ (x : Offer). AreDeclared signature next (length (asked_for ws)) (asked_variables (x ∷ os))) (sym (is.2.0 ∙ is.1.2))
    (follow_declared signature variables next ws os is.2.1)
follow_declared signature variables next (offer_variable v ∷ ws) [] is = absurd is.2
follow_declared signature variables next (offer_variable v ∷ ws) (o ∷ os) is =
    let here = variable_formed signature next v is.1.0 is.1.1 in
    subst (λ (x : Offer). AreDeclared signature next (suc (length (asked_for ws))) (asked_variables (x ∷ os))) (sym (is.2.0 ∙ is.1.2))
    (one_declared signature next (length (asked_for ws)) is.1.0 (asked_variables os) here.0 here.1
    (follow_declared signature variables (suc next) ws os is.2.1))

pub offers_declare : (signature : Signature) (variables : List Variable) (next : ℕ) (ws : List WrittenOffer) (os : List Offer)
    → OffersAre signature variables next ws (resolved os) → AreDeclared signature next (length (asked_for ws)) (asked_variables os)
offers_declare signature variables next ws os is =
    let others : resolved os ≡ is.0 = beside_of (first_double (placed_variables (asked_for ws))) is.0 os is.2 in
    follow_declared signature variables next ws os
    (subst (λ (r : Resolution (List Offer)). OffersFollow signature variables next ws r) (sym others) is.1)

-- ---- What is known

append_assoc : {A : Type 0} (xs ys zs : List A) → (xs ++ ys) ++ zs ≡ xs ++ (ys ++ zs)
append_assoc [] ys zs = refl
append_assoc (x ∷ xs) ys zs = ap (λ vs. x ∷ vs) (append_assoc xs ys zs)

-- ---- Variables copied one by one

taken_more : (items : List code.Variable) (i : ℕ) (x : code.Variable) → i < length items → x ≡ get_or items i x
    → take (i + 1) (map variable_of items) ≡ take i (map variable_of items) ++ variable_of x ∷ []
taken_more items i x within is =
    take-map variable_of (i + 1) items
    ∙ ap (map variable_of) (take_more items i x within ∙ ap (λ y. take i items ++ y ∷ []) (sym is))
    ∙ map-append variable_of (take i items) (x ∷ [])
    ∙ ap (λ ys. ys ++ variable_of x ∷ []) (sym (take-map variable_of i items))

pub one_pushed : (old now new : List Variable) (items : List code.Variable) (i : ℕ) (x copy : code.Variable) → i < length items
    → x ≡ get_or items i x → now ≡ old ++ take i (map variable_of items) → variable_of copy ≡ variable_of x
    → new ≡ now ++ variable_of copy ∷ [] → new ≡ old ++ take (i + 1) (map variable_of items)
one_pushed old now new items i x copy within is so_far same last =
    last ∙ ap (λ y. now ++ y ∷ []) same ∙ ap (λ vs. vs ++ variable_of x ∷ []) so_far
    ∙ append_assoc old (take i (map variable_of items)) (variable_of x ∷ [])
    ∙ ap (λ ys. old ++ ys) (sym (taken_more items i x within is))

-- these known, and the rest as it was
abbrev pub known : State → List (List ℕ) → List Binding → List Variable → ℕ → State
known state names gates variables variable = record {
  signature = state.signature;
  names = names;
  scope = record { gates = gates; variables = variables; processes = state.scope.processes };
  variable = variable;
  process = state.process;
}

-- other gates known
abbrev pub knowing : Gates → State → State
knowing gates state = known state gates.names gates.visible state.scope.variables state.variable

-- more variables that are visible
pub sees : (state : State) (vs variables : List Variable) (variable : ℕ) → variables ≡ state.scope.variables ++ vs
    → variable ≡ state.variable + length vs → known state state.names state.scope.gates variables variable ≡ seeing vs state
sees state vs variables variable are number =
    ap (λ (xs : List Variable). known state state.names state.scope.gates xs variable) are
    ∙ ap (λ (n : ℕ). known state state.names state.scope.gates (state.scope.variables ++ vs) n) number

-- terms of the signature there are so here
pub terms_seen : (state between : State) (vs : List Variable) (terms : List ProfiledTerm) → between ≡ seeing vs state
    → AreTermsOf between.signature terms → AreTermsOf state.signature terms
terms_seen state between vs terms first =
    subst (λ (g : Signature). AreTermsOf g terms) (ap (λ (s : State). s.signature) first)

-- more gates
pub declares : (state : State) (names : List (List ℕ)) (gates : Gates) → gates ≡ declared names (gates_at_state state)
    → knowing gates state ≡ with_gates_declared names state
declares state names gates = ap (λ (g : Gates). known state g.names g.visible state.scope.variables state.variable)

-- behind nothing, and behind one part after the other
pub behind_nothing : (state : State) → state ≡ behind_in_state [] 0 state
behind_nothing state =
    let number : state.variable ≡ state.variable + 0 = omega arith in
    ap (λ (ns : List (List ℕ)). known state ns state.scope.gates state.scope.variables state.variable) (sym (append-nil state.names))
    ∙ ap (λ (n : ℕ). known state (state.names ++ []) state.scope.gates state.scope.variables n) number

-- taken off behind a behaviour that saw them
pub variables_fit : (old between new : State) (vs : List Variable) (b : WrittenBehaviour) (size : ℕ) → size ≡ length old.scope.variables
    → between ≡ seeing vs old → new ≡ passed b between → size ≤ length new.scope.variables
variables_fit old between new vs b size many first later =
    let longer : length new.scope.variables ≡ length old.scope.variables + length vs =
    ap (λ (s : State). length s.scope.variables) (later ∙ ap (passed b) first) ∙ length-append old.scope.variables vs in
    omega (arith, longer, many)

pub variables_forgotten : (old between new last : State) (vs : List Variable) (b : WrittenBehaviour) (size many : ℕ)
    → size ≡ length old.scope.variables → length vs ≡ many
    → between ≡ seeing vs old → new ≡ passed b between → last ≡ with_first_variables size new
    → last ≡ behind_in_state (gates_in b) (many + variable_count b) old
variables_forgotten old between new last vs b size many are counted first later cut =
    let number : (old.variable + length vs) + variable_count b ≡ old.variable + (many + variable_count b) = omega (arith, counted) in
    cut ∙ ap (with_first_variables size) (later ∙ ap (passed b) first)
    ∙ ap (λ (n : ℕ). with_first_variables n (passed b (seeing vs old))) are
    ∙ ap
    (λ (xs : List Variable). known old (old.names ++ gates_in b) old.scope.gates xs ((old.variable + length vs) + variable_count b))
    (take-append_seam old.scope.variables vs)
    ∙ ap (λ (n : ℕ). known old (old.names ++ gates_in b) old.scope.gates old.scope.variables n) number

-- gates taken off behind a behaviour that saw them
pub gates_fit : (old between new : State) (names : List (List ℕ)) (b : WrittenBehaviour) (size : ℕ) → size ≡ length old.scope.gates
    → between ≡ with_gates_declared names old → new ≡ passed b between → size ≤ length new.scope.gates
gates_fit old between new names b size many first later =
    (cut_back names (length old.names) old.scope.gates new.scope.gates size
    (ap (λ (s : State). s.scope.gates) (later ∙ ap (passed b) first) ∙ declared_visible names (gates_at_state old)) many).0

pub gates_forgotten : (old between new last : State) (names : List (List ℕ)) (b : WrittenBehaviour) (size : ℕ)
    → size ≡ length old.scope.gates → between ≡ with_gates_declared names old → new ≡ passed b between
    → last ≡ with_last_gates size new → last ≡ behind_in_state (names ++ gates_in b) (variable_count b) old
gates_forgotten old between new last names b size many first later cut =
    let whole : new ≡ passed b (with_gates_declared names old) = later ∙ ap (passed b) first in
    let back =
    (cut_back names (length old.names) old.scope.gates (declared names (gates_at_state old)).visible size
    (declared_visible names (gates_at_state old)) many).1 in
    cut ∙ ap (with_last_gates size) whole
    ∙ ap
    (λ (gs : List Binding). known old ((declared names (gates_at_state old)).names ++ gates_in b) gs old.scope.variables
    (old.variable + variable_count b)) back
    ∙ ap
    (λ (ns : List (List ℕ)). known old (ns ++ gates_in b) old.scope.gates old.scope.variables (old.variable + variable_count b))
    (declared_names names (gates_at_state old))
    ∙ ap
    (λ (ns : List (List ℕ)). known old ns old.scope.gates old.scope.variables (old.variable + variable_count b))
    (append_assoc old.names names (gates_in b))

-- ---- What stands where more is known

pub stands_seeing : (old between : State) (vs : List Variable) (many : ℕ) (b : WrittenBehaviour) (o : Resolution Behaviour)
    → between ≡ seeing vs old → length vs ≡ many → BehaviourStandsFor between b o
    → BehaviourIs old.signature (with_variables vs old.scope) (past_variables many (next_numbers_at old)) b o
stands_seeing old between vs many b o first counted stands =
    subst (λ (n : ℕ). BehaviourIs old.signature (with_variables vs old.scope) (past_variables n (next_numbers_at old)) b o) counted
    (subst (λ (s : State). BehaviourStandsFor s b o) first stands)

pub stands_declared : (old between : State) (names : List (List ℕ)) (b : WrittenBehaviour) (o : Resolution Behaviour)
    → between ≡ with_gates_declared names old → BehaviourStandsFor between b o
    → BehaviourIs old.signature (with_gates names (length old.names) old.scope) (past_gates (length names) (next_numbers_at old)) b o
stands_declared old between names b o first stands =
    let number : length (declared names (gates_at_state old)).names ≡ length old.names + length names =
    ap (λ (ns : List (List ℕ)). length ns) (declared_names names (gates_at_state old)) ∙ length-append old.names names in
    subst
    (λ (gs : List Binding). BehaviourIs old.signature
    (record { gates = gs; variables = old.scope.variables; processes = old.scope.processes })
    (past_gates (length names) (next_numbers_at old)) b o)
    (declared_visible names (gates_at_state old))
    (subst
    (λ (n : ℕ). BehaviourIs old.signature
    (record {
      gates = (declared names (gates_at_state old)).visible;
      variables = old.scope.variables;
      processes = old.scope.processes;
    })
    (record { gate = n; variable = old.variable; process = old.process }) b o)
    number (subst (λ (s : State). BehaviourStandsFor s b o) first stands))
