-- Tables of gates once gates were declared, or bindings taken off again.
use Rattle.std.proofs.Common.{◌≡◌, ℕ, suc, ◌+◌, ◌-◌, ◌≤◌, List, [], ◌∷◌, ◌++◌, length, drop, refl, ap, sym, ◌∙◌, arith}
use Rattle.std.specs.List.{filter_map}
use Rattle.std.proofs.Math.Seq.{drop-append_seam}
use Rattle.std.proofs.lemmas.List.{length-append, append-nil}
use Rattle.lotos_base.specs.Names.{folded}
use Rattle.syntax_trees.specs.TreeViews.{gate_choice_of, gate_choices_of}
use Rattle.syntax_trees.specs.WrittenBehaviour.{WrittenSign, WrittenGateChoice}
use Rattle.syntax_trees.specs.declared.behaviours.GateText.{GateText}
use Rattle.behaviour_semantics.specs.Behaviour.{SynchronisationSet}
use Rattle.scope_parts.specs.Choices.{GateChoice, with_signs, choices_at, signs_follow, par_choices_at, placed_choice, placed_choices}
use Rattle.scope_parts.specs.Declares.{declared_gate}
use Rattle.scope_parts.specs.FaultView.{FaultIs}
use Rattle.scope_parts.specs.GatesDeclared.{Gates, declared, declared_one}
use Rattle.scope_parts.specs.Resolution.{resolved, faulty, and_then}
use Rattle.scope_parts.specs.Scope.{Binding, bind, bind_all}
use Rattle.scope_parts.specs.declared.scope_faults.ScopeFault.{ScopeFault}
use Rattle.scope_parts.proofs.AnswerLemmas.{value_then, fault_then, means_map}

-- the names that lists of declared gates have
pub gates_declared : (texts : List GateText) → filter_map declared_gate texts ≡ placed_choices (gate_choices_of texts)
gates_declared [] = refl
gates_declared (text ∷ texts) = ap (λ names. placed_choice (gate_choice_of text) ∷ names) (gates_declared texts)

one_longer : (names : List (List ℕ)) (name : List ℕ) → length (names ++ name ∷ []) ≡ suc (length names)
one_longer [] name = refl
one_longer (first ∷ names) name = ap suc (one_longer names name)

-- the visible gates and the names once gates were declared
pub declared_visible : (names : List (List ℕ)) (gates : Gates)
    → (declared names gates).visible ≡ bind_all names (length gates.names) gates.visible
declared_visible [] gates = refl
declared_visible (name ∷ names) gates =
    declared_visible names (declared_one name gates)
    ∙ ap (λ (n : ℕ). bind_all names n (bind name (length gates.names) gates.visible)) (one_longer gates.names name)

append_one : {A : Type 0} (xs : List A) (x : A) (ys : List A) → xs ++ x ∷ ys ≡ (xs ++ x ∷ []) ++ ys
append_one [] x ys = refl
append_one (z ∷ xs) x ys = ap (λ zs. z ∷ zs) (append_one xs x ys)

pub declared_names : (names : List (List ℕ)) (gates : Gates) → (declared names gates).names ≡ gates.names ++ names
declared_names [] gates = sym (append-nil gates.names)
declared_names (name ∷ names) gates = declared_names names (declared_one name gates) ∙ sym (append_one gates.names name names)

pub same_gates : (one other : Gates) → one.names ≡ other.names → one.visible ≡ other.visible → one ≡ other
same_gates one other names visible =
    ap (λ (ns : List (List ℕ)). record { names = ns; visible = one.visible }) names
    ∙ ap (λ (bs : List Binding). record { names = other.names; visible = bs }) visible

-- what was bound stands in front of what was bound before
bound_over : (names : List (List ℕ)) (n : ℕ) (bindings : List Binding) → (front : List Binding)
    × (bind_all names n bindings ≡ front ++ bindings)
bound_over [] n bindings = ([], refl)
bound_over (name ∷ names) n bindings =
    let rest = bound_over names (suc n) (bind name n bindings) in (
      rest.0 ++ record { key = folded name; number = n } ∷ [],
      rest.1 ∙ append_one rest.0 _ bindings,
    )

-- taking off what was bound
pub cut_back : (names : List (List ℕ)) (n : ℕ) (bindings now : List Binding) (size : ℕ) → now ≡ bind_all names n bindings
    → size ≡ length bindings → (size ≤ length now) × (drop (length now - size) now ≡ bindings)
cut_back names n bindings now size are many =
    let over = bound_over names n bindings in
    let whole : now ≡ over.0 ++ bindings = are ∙ over.1 in
    let longer : length now ≡ length over.0 + length bindings = ap length whole ∙ length-append over.0 bindings in
    let front : length now - size ≡ length over.0 = omega (arith, longer, many) in (
      omega (arith, longer, many),
      ap (λ (k : ℕ). drop k now) front ∙ ap (drop (length over.0)) whole ∙ drop-append_seam over.0 bindings,
    )

-- ---- The gates of a `par`

pub pars_value : (visible cut : List Binding) (next first : ℕ) (sign : WrittenSign) (texts : List WrittenGateChoice)
    (choices : List GateChoice) (meets : List SynchronisationSet) → cut ≡ visible → first ≡ next
    → resolved choices ≡ choices_at visible next texts → resolved meets ≡ signs_follow cut first sign texts
    → resolved (with_signs choices meets) ≡ par_choices_at visible next sign texts
pars_value visible cut next first sign texts choices meets same number chosen met =
    value_then (choices_at visible next texts) choices
    (λ cs. and_then (signs_follow visible next sign texts) (λ ms. resolved (with_signs cs ms)))
    (resolved (with_signs choices meets)) chosen
    (value_then (signs_follow visible next sign texts) meets (λ ms. resolved (with_signs choices ms))
    (resolved (with_signs choices meets))
    (met ∙ ap (λ bs. signs_follow bs first sign texts) same ∙ ap (λ (n : ℕ). signs_follow visible n sign texts) number) refl)

pub pars_fault : (visible cut : List Binding) (next first : ℕ) (sign : WrittenSign) (texts : List WrittenGateChoice)
    (choices : List GateChoice) (fault : ScopeFault) → cut ≡ visible → first ≡ next
    → resolved choices ≡ choices_at visible next texts → FaultIs fault (λ f. faulty f ≡ signs_follow cut first sign texts)
    → FaultIs fault (λ f. faulty f ≡ par_choices_at visible next sign texts)
pars_fault visible cut next first sign texts choices fault same number chosen =
    means_map fault (λ f. faulty f ≡ signs_follow cut first sign texts) (λ f. faulty f ≡ par_choices_at visible next sign texts)
    (λ f met. value_then (choices_at visible next texts) choices
    (λ cs. and_then (signs_follow visible next sign texts) (λ ms. resolved (with_signs cs ms)))
    (faulty f) chosen
    (fault_then (signs_follow visible next sign texts) (λ ms. resolved (with_signs choices ms)) f
    (met ∙ ap (λ bs. signs_follow bs first sign texts) same ∙ ap (λ (n : ℕ). signs_follow visible n sign texts) number)))
