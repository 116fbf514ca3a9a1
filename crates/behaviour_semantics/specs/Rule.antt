-- What the rules of the dynamic semantics ask of labels, and what they make of values. The table of moves and the
-- transition relation both speak in these words.
use Rattle.std.specs.Prelude.{ℕ, List, [], ◌∷◌, Bool, ◌&&◌, not, map, nat_eq, Option, None, Some, if◌then◌else◌}
use Rattle.lotos_base.specs.Signature.{Signature}
use Rattle.lotos_base.specs.Term.{Term}
use Rattle.lotos_base.specs.Sorting.{head_sort_of, IsGroundOf}
use Rattle.lotos_base.specs.Equation.{Data}
use Rattle.lotos_base.specs.Equality.{Equal}
use Rattle.lotos_base.specs.Substitution.{Substitution, is_listed}
use Rattle.behaviour_semantics.specs.Behaviour.{Behaviour, stop, parallel, disable, Test, Offer, give, ask, ExitValue, exit_value, any_of, SynchronisationSet, no_gates, all_gates, at_gates}
use Rattle.behaviour_semantics.specs.Label.{Label, inner_event, gate_event, exit_event, under}
use Rattle.behaviour_semantics.specs.Replacement.{test_with}

-- A value is represented by the term that is given; no canonical form is taken.
abbrev pub as_given : Term → Term
as_given t = t

-- The values of an action's label: each given one, and for each `?x` the next leaf, each as the term that
-- represents it.
abbrev pub offered : (Term → Term) → List Offer → List Term → List Term
offered represent [] leaves = []
offered represent (give t ∷ offers) leaves = represent t ∷ offered represent offers leaves
offered represent (ask x ∷ offers) [] = []
offered represent (ask x ∷ offers) (leaf ∷ leaves) = represent leaf ∷ offered represent offers leaves

-- The values of an `exit`: each given one, and for each `any` the next leaf, each as the term that
-- represents it.
abbrev pub results_of : (Term → Term) → List ExitValue → List Term → List Term
results_of represent [] leaves = []
results_of represent (exit_value t ∷ results) leaves = represent t ∷ results_of represent results leaves
results_of represent (any_of s ∷ results) [] = []
results_of represent (any_of s ∷ results) (leaf ∷ leaves) = represent leaf ∷ results_of represent results leaves

-- The test of an action, if it has one, with the terms put in.
abbrev pub tests_of : Substitution → Option Test → List Test
tests_of values None = []
tests_of values (Some test) = test_with values test ∷ []

-- The gate is one at which the two sides of a parallel synchronise.
abbrev pub synchronises : SynchronisationSet → ℕ → Bool
synchronises no_gates g = Bool.false
synchronises all_gates g = Bool.true
synchronises (at_gates gates) g = is_listed gates g

-- A side of a parallel moves alone with the inner event and at a gate where the sides do not synchronise, and never ends
-- alone.
abbrev pub moves_alone : SynchronisationSet → Label → Bool
moves_alone meet inner_event = Bool.true
moves_alone meet (gate_event g values) = not (synchronises meet g)
moves_alone meet (exit_event values) = Bool.false

-- Two sorts that are known, and the same.
abbrev pub is_same_known_sort : Option ℕ → Option ℕ → Bool
is_same_known_sort (Some s) (Some t) = nat_eq s t
is_same_known_sort _ _ = Bool.false

-- As many terms as sorts, and each term of its sort.
abbrev pub have_sorts : Signature → List Term → List ℕ → Bool
have_sorts signature [] [] = Bool.true
have_sorts signature (t ∷ ts) (s ∷ ss) = is_same_known_sort (head_sort_of signature t) (Some s) && have_sorts signature ts ss
have_sorts signature _ _ = Bool.false

-- Equally many terms of the same sorts.
abbrev pub have_same_sorts : Signature → List Term → List Term → Bool
have_same_sorts signature [] [] = Bool.true
have_same_sorts signature (t ∷ ts) (u ∷ us) =
    is_same_known_sort (head_sort_of signature t) (head_sort_of signature u) && have_same_sorts signature ts us
have_same_sorts signature _ _ = Bool.false

-- Both sides of a parallel move together: at one gate where they meet, or both ending, with equally many values of
-- the same sorts.
abbrev pub move_together : Signature → SynchronisationSet → Label → Label → Bool
move_together signature meet (gate_event g us) (gate_event h vs) = nat_eq g h && synchronises meet g && have_same_sorts signature us vs
move_together signature meet (exit_event us) (exit_event vs) = have_same_sorts signature us vs
move_together signature meet _ _ = Bool.false

-- The values of a label.
abbrev pub label_values : Label → List Term
label_values inner_event = []
label_values (gate_event g values) = values
label_values (exit_event values) = values

-- The equations of two lists of values, pair by pair.
abbrev pub pairwise : List Term → List Term → List Test
pairwise (t ∷ ts) (u ∷ us) = record { left = t; right = u } ∷ pairwise ts us
pairwise _ _ = []

-- The label under `hide`: an event at a hidden gate is the inner event.
abbrev pub hidden_label : List ℕ → Label → Label
hidden_label gates inner_event = inner_event
hidden_label gates (gate_event g values) = if is_listed gates g then inner_event else gate_event g values
hidden_label gates (exit_event values) = exit_event values

-- The label is a successful termination.
abbrev pub is_exit : Label → Bool
is_exit inner_event = Bool.false
is_exit (gate_event g values) = Bool.false
is_exit (exit_event values) = Bool.true

-- The target of a left side of `[>`: the disabling is gone after the left side has ended.
abbrev pub still_disabled : Label → Behaviour → Behaviour → Behaviour
still_disabled label target c = if is_exit label then target else disable target c

-- Behaviours side by side, grouped to the right. One alone stands alone.
abbrev pub side_by_side : SynchronisationSet → List Behaviour → Behaviour
side_by_side meet [] = stop
side_by_side meet (b ∷ []) = b
side_by_side meet (b ∷ c ∷ bs) = parallel meet b (side_by_side meet (c ∷ bs))

-- The copies of the body of a gate `par`, each relabelled by one gate of the list, side by side.
abbrev pub copies : ℕ → List ℕ → SynchronisationSet → Behaviour → Behaviour
copies g gates meet b = side_by_side meet (map (λ (a : ℕ). under b ((g, a) ∷ [])) gates)

-- The test holds: the data derive its equation.
abbrev pub Holds : Data → Test → Type 0
Holds data_ test = Equal data_ test.left test.right

-- Each test of the list holds.
abbrev pub AllHold : Data → List Test → Type 0
AllHold data_ [] = Unit {0}
AllHold data_ (test ∷ tests) = Holds data_ test × AllHold data_ tests

-- The terms are ground, as many as the sorts, and each of its sort.
abbrev pub AreValues : Signature → List ℕ → List Term → Type 0
AreValues signature [] [] = Unit {0}
AreValues signature (s ∷ ss) (t ∷ ts) = IsGroundOf signature s t × AreValues signature ss ts
AreValues signature _ _ = ⊥
