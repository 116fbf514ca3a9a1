-- Alike behaviours: the same form, with terms at the same places that are equal by the data.
use Rattle.std.specs.Prelude.{◌≡◌, List, [], ◌∷◌, Option, None, Some}
use Rattle.lotos_base.specs.Term.{Term}
use Rattle.lotos_base.specs.Equation.{Data}
use Rattle.lotos_base.specs.Equality.{Equal}
use Rattle.lotos_base.specs.Substitution.{Substitution, substituted, IsGrounding}
use Rattle.behaviour_semantics.specs.Behaviour.{Behaviour, stop, exit_with, action, inner_action, guard, choice, parallel, hide, enable, disable, let_be, choose_value, choose_gate, par_gate, call, relabel, Test, Offer, give, ask, ExitValue, exit_value, any_of, let_variables, let_terms}
use Rattle.behaviour_semantics.specs.Label.{Label, inner_event, gate_event, exit_event}

-- The terms are equal whatever ground terms of their sorts are put for the variables that occur in them, the same
-- ones in both.
abbrev pub AlikeTerms : Data → Term → Term → Type 0
AlikeTerms data_ t u = (values : Substitution) → IsGrounding data_.signature t values → IsGrounding data_.signature u values
    → Equal data_ (substituted values t) (substituted values u)

abbrev pub AllAlike : Data → List Term → List Term → Type 0
AllAlike data_ [] [] = Unit {0}
AllAlike data_ (t ∷ ts) (u ∷ us) = AlikeTerms data_ t u × AllAlike data_ ts us
AllAlike data_ _ _ = ⊥

abbrev pub AlikeTests : Data → Test → Test → Type 0
AlikeTests data_ test other = AlikeTerms data_ test.left other.left × AlikeTerms data_ test.right other.right

abbrev pub AlikeOptions : Data → Option Test → Option Test → Type 0
AlikeOptions data_ None None = Unit {0}
AlikeOptions data_ (Some test) (Some other) = AlikeTests data_ test other
AlikeOptions data_ _ _ = ⊥

abbrev pub AlikeOffers : Data → List Offer → List Offer → Type 0
AlikeOffers data_ [] [] = Unit {0}
AlikeOffers data_ (give t ∷ offers) (give u ∷ others) = AlikeTerms data_ t u × AlikeOffers data_ offers others
AlikeOffers data_ (ask x ∷ offers) (ask y ∷ others) = (x ≡ y) × AlikeOffers data_ offers others
AlikeOffers data_ _ _ = ⊥

abbrev pub AlikeResults : Data → List ExitValue → List ExitValue → Type 0
AlikeResults data_ [] [] = Unit {0}
AlikeResults data_ (exit_value t ∷ results) (exit_value u ∷ others) = AlikeTerms data_ t u × AlikeResults data_ results others
AlikeResults data_ (any_of s ∷ results) (any_of r ∷ others) = (s ≡ r) × AlikeResults data_ results others
AlikeResults data_ _ _ = ⊥

-- Two labels are alike: of one kind, at one gate, with values that are alike. Labels of closed behaviours are ground, and
-- there it is `EqualLabels`.
abbrev pub AlikeLabels : Data → Label → Label → Type 0
AlikeLabels data_ inner_event inner_event = Unit {0}
AlikeLabels data_ (gate_event g us) (gate_event h vs) = (g ≡ h) × AllAlike data_ us vs
AlikeLabels data_ (exit_event us) (exit_event vs) = AllAlike data_ us vs
AlikeLabels data_ _ _ = ⊥

-- Two behaviours are alike.
abbrev pub Alike : Data → Behaviour → Behaviour → Type 0
Alike data_ stop stop = Unit {0}
Alike data_ (exit_with results) (exit_with others) = AlikeResults data_ results others
Alike data_ (action g offers test b) (action h others test' c) = (g ≡ h) × AlikeOffers data_ offers others × AlikeOptions data_ test test'
    × Alike data_ b c
Alike data_ (inner_action b) (inner_action c) = Alike data_ b c
Alike data_ (guard test b) (guard test' c) = AlikeTests data_ test test' × Alike data_ b c
Alike data_ (choice b c) (choice b' c') = Alike data_ b b' × Alike data_ c c'
Alike data_ (parallel meet b c) (parallel meet' b' c') = (meet ≡ meet') × Alike data_ b b' × Alike data_ c c'
Alike data_ (hide gates b) (hide gates' c) = (gates ≡ gates') × Alike data_ b c
Alike data_ (enable b xs c) (enable b' xs' c') = Alike data_ b b' × (xs ≡ xs') × Alike data_ c c'
Alike data_ (disable b c) (disable b' c') = Alike data_ b b' × Alike data_ c c'
Alike data_ (let_be bindings b) (let_be others c) = (let_variables bindings ≡ let_variables others)
    × AllAlike data_ (let_terms bindings) (let_terms others) × Alike data_ b c
Alike data_ (choose_value x b) (choose_value y c) = (x ≡ y) × Alike data_ b c
Alike data_ (choose_gate g gates b) (choose_gate h gates' c) = (g ≡ h) × (gates ≡ gates') × Alike data_ b c
Alike data_ (par_gate g gates meet b) (par_gate h gates' meet' c) = (g ≡ h) × (gates ≡ gates') × (meet ≡ meet') × Alike data_ b c
Alike data_ (call number gates arguments) (call number' gates' arguments') = (number ≡ number') × (gates ≡ gates')
    × AllAlike data_ arguments arguments'
Alike data_ (relabel pairs b) (relabel pairs' c) = (pairs ≡ pairs') × Alike data_ b c
Alike data_ _ _ = ⊥
