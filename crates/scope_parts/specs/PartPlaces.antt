-- The places of lists of declarations and of terms, and that they follow one another as they do in a text: a sort, or a list of
-- gates, that several names share is the same for each of them.
use Rattle.std.specs.Prelude.{◌≡◌, ◌⊎◌, List, [], ◌∷◌, ◌++◌, map}
use Rattle.lotos_base.specs.Equation.{Place}
use Rattle.lotos_base.specs.WrittenTerm.{WrittenTerm}
use Rattle.syntax_trees.specs.WrittenVariable.{WrittenVariable}
use Rattle.syntax_trees.specs.WrittenBehaviour.{WrittenSign, choice_sign, interleaving, full_synchronisation, synchronising, disabling, enabling, WrittenGateChoice, WrittenExitValue, exit_term, exit_any, WrittenOffer, offer_value, offer_variable}
use Rattle.behaviour_semantics.specs.WellFormed.{Every}
use Rattle.scope_parts.specs.Numbering.{asked_for}
use Rattle.scope_parts.specs.Sorts.{placed_variables}
use Rattle.scope_parts.specs.Terms.{let_names}
use Rattle.scope_parts.specs.Choices.{placed_choices}
use Rattle.scope_parts.specs.Order.{StandWhollyBefore, InTurn, Rising, joined_places}
use Rattle.scope_parts.specs.TermPlaces.{name_places, term_places}

-- ---- Variables

abbrev pub sort_places : List WrittenVariable → List Place
sort_places variables = map (λ (variable : WrittenVariable). variable.sort_place) variables

abbrev pub variable_places : List WrittenVariable → List Place
variable_places variables = name_places (placed_variables variables) ++ sort_places variables

-- the sort of a variable stands before those of the variables behind it, or is the same
abbrev pub SortsFollow : List WrittenVariable → Type 0
SortsFollow [] = Unit {0}
SortsFollow (x ∷ variables) =
    Every (λ (y : WrittenVariable). (x.sort_place ≡ y.sort_place) ⊎ StandWhollyBefore (x.sort_place ∷ []) (y.sort_place ∷ [])) variables
    × SortsFollow variables

abbrev pub VariablesFollow : List WrittenVariable → Type 0
VariablesFollow variables = Rising (name_places (placed_variables variables)) × SortsFollow variables

-- ---- Values of `exit`, and actual values

abbrev pub exit_value_places : WrittenExitValue → List Place
exit_value_places (exit_term term) = term_places term
exit_value_places (exit_any sort) = sort.place ∷ []

abbrev pub exit_places : List WrittenExitValue → List (List Place)
exit_places values = map exit_value_places values

abbrev pub value_places : List WrittenTerm → List (List Place)
value_places terms = map term_places terms

-- ---- The variables of a `let`, each with its term

abbrev pub binding_places : WrittenVariable × WrittenTerm → List Place
binding_places binding = binding.0.sort_place ∷ term_places binding.1

abbrev pub bindings_places : List (WrittenVariable × WrittenTerm) → List (List Place)
bindings_places bindings = map binding_places bindings

abbrev pub let_places : List (WrittenVariable × WrittenTerm) → List Place
let_places bindings = name_places (placed_variables (let_names bindings)) ++ joined_places (bindings_places bindings)

abbrev pub LetFollows : List (WrittenVariable × WrittenTerm) → Type 0
LetFollows bindings = Rising (name_places (placed_variables (let_names bindings))) × InTurn (bindings_places bindings)

-- ---- Offers

abbrev pub offer_places : WrittenOffer → List Place
offer_places (offer_value term) = term_places term
offer_places (offer_variable variable) = variable.sort_place ∷ []

abbrev pub offered_places : List WrittenOffer → List (List Place)
offered_places offers = map offer_places offers

abbrev pub offers_places : List WrittenOffer → List Place
offers_places offers = name_places (placed_variables (asked_for offers)) ++ joined_places (offered_places offers)

-- an offer stands before the other, or both ask for variables whose sort is the same
abbrev pub OfferFollows : WrittenOffer → WrittenOffer → Type 0
OfferFollows (offer_value term) other = StandWhollyBefore (term_places term) (offer_places other)
OfferFollows (offer_variable x) (offer_value term) = StandWhollyBefore (x.sort_place ∷ []) (term_places term)
OfferFollows (offer_variable x) (offer_variable y) =
    (x.sort_place ≡ y.sort_place) ⊎ StandWhollyBefore (x.sort_place ∷ []) (y.sort_place ∷ [])

abbrev pub OffersInTurn : List WrittenOffer → Type 0
OffersInTurn [] = Unit {0}
OffersInTurn (offer ∷ offers) = Every (OfferFollows offer) offers × OffersInTurn offers

abbrev pub OffersFollowOn : List WrittenOffer → Type 0
OffersFollowOn offers = Rising (name_places (placed_variables (asked_for offers))) × OffersInTurn offers

-- ---- Gates that a `choice` or a `par` declares, and its sign

abbrev pub among_places : List WrittenGateChoice → List Place
among_places gates = joined_places (map (λ (gate : WrittenGateChoice). name_places gate.among) gates)

abbrev pub choice_places : List WrittenGateChoice → List Place
choice_places gates = name_places (placed_choices gates) ++ among_places gates

-- the gates that a declared gate stands for are before those of the gates behind it, or are the same
abbrev pub AmongFollow : List WrittenGateChoice → Type 0
AmongFollow [] = Unit {0}
AmongFollow (d ∷ declared) =
    Rising (name_places d.among)
    × Every (λ (e : WrittenGateChoice). (d.among ≡ e.among) ⊎ StandWhollyBefore (name_places d.among) (name_places e.among)) declared
    × AmongFollow declared

abbrev pub ChoicesFollow : List WrittenGateChoice → Type 0
ChoicesFollow gates = Rising (name_places (placed_choices gates)) × AmongFollow gates

abbrev pub sign_places : WrittenSign → List Place
sign_places choice_sign = []
sign_places interleaving = []
sign_places full_synchronisation = []
sign_places (synchronising names) = name_places names
sign_places disabling = []
sign_places (enabling variables) = variable_places variables

abbrev pub SignFollows : WrittenSign → Type 0
SignFollows choice_sign = Unit {0}
SignFollows interleaving = Unit {0}
SignFollows full_synchronisation = Unit {0}
SignFollows (synchronising names) = Rising (name_places names)
SignFollows disabling = Unit {0}
SignFollows (enabling variables) = VariablesFollow variables
