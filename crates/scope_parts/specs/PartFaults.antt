-- What is wrong in the lists of names, of declarations and of terms that behaviours and definitions are made of: each fault by
-- itself, whatever else is wrong beside it.
use Rattle.std.specs.Prelude.{◌≡◌, ◌⊎◌, ℕ, suc, true, List, [], ◌∷◌, Option, None, Some}
use Rattle.lotos_base.specs.Signature.{Signature}
use Rattle.lotos_base.specs.Equation.{Variable}
use Rattle.lotos_base.specs.WrittenTerm.{PlacedName, WrittenTerm}
use Rattle.syntax_trees.specs.WrittenVariable.{WrittenVariable}
use Rattle.syntax_trees.specs.WrittenBehaviour.{WrittenSign, choice_sign, interleaving, full_synchronisation, synchronising, disabling, enabling, WrittenGateChoice, WrittenExitValue, WrittenOffer}
use Rattle.scope_parts.specs.ScopeFault.{ScopeFault, double_name}
use Rattle.scope_parts.specs.Resolution.{Resolution, resolved, faulty}
use Rattle.scope_parts.specs.Scope.{Binding, bind, is_bound, gate_at}
use Rattle.scope_parts.specs.Numbering.{asked_for}
use Rattle.scope_parts.specs.Sorts.{sort_at, variable_at, placed_variables}
use Rattle.scope_parts.specs.Terms.{TermIs, ExitValueIs, BindingIs, OfferIs, past_offer, let_names}
use Rattle.scope_parts.specs.Choices.{placed_choices}

-- a fault of one member of the list
abbrev pub OfOne : {A : Type 0} → (A → ScopeFault → Type 0) → List A → ScopeFault → Type 0
OfOne Has [] fault = ⊥
OfOne Has (x ∷ xs) fault = Has x fault ⊎ OfOne Has xs fault

-- a fault behind the answer to a question, which has to be there, since what is looked at sees it
abbrev pub Seeing : {A : Type 0} → (Resolution A → Type 0) → (A → ScopeFault → Type 0) → ScopeFault → Type 0
Seeing {A} Question Has fault = (x : A) × Question (resolved x) × Has x fault

-- a gate name that is not visible
abbrev pub GatesHave : List Binding → List PlacedName → ScopeFault → Type 0
GatesHave gates names fault = OfOne (λ (gate : PlacedName) f. faulty f ≡ gate_at gates gate) names fault

-- a sort that the data lack
abbrev pub SortsHave : Signature → List PlacedName → ScopeFault → Type 0
SortsHave signature sorts fault = OfOne (λ (sort : PlacedName) f. faulty f ≡ sort_at signature sort.place sort.name) sorts fault

-- a name that one before it in the list has
abbrev pub DoubledAfter : List Binding → List PlacedName → ScopeFault → Type 0
DoubledAfter before [] fault = ⊥
DoubledAfter before (name ∷ names) fault =
    ((is_bound before name.name ≡ true) × (fault ≡ double_name name.place name.name))
    ⊎ DoubledAfter (bind name.name 0 before) names fault

abbrev pub Doubled : List PlacedName → ScopeFault → Type 0
Doubled names fault = DoubledAfter [] names fault

-- the sort of a variable that the data lack, the variables being numbered from a number on
abbrev pub VariableSortsHave : Signature → ℕ → List WrittenVariable → ScopeFault → Type 0
VariableSortsHave signature next [] fault = ⊥
VariableSortsHave signature next (variable ∷ variables) fault =
    (faulty fault ≡ variable_at signature next variable) ⊎ VariableSortsHave signature (suc next) variables fault

-- variables that one list declares
abbrev pub VariablesHave : Signature → ℕ → List WrittenVariable → ScopeFault → Type 0
VariablesHave signature next variables fault =
    Doubled (placed_variables variables) fault ⊎ VariableSortsHave signature next variables fault

-- the values of `exit`
abbrev pub ExitValuesHave : Signature → List Variable → List WrittenExitValue → ScopeFault → Type 0
ExitValuesHave signature scope values fault = OfOne (λ (value : WrittenExitValue) f. ExitValueIs signature scope value (faulty f)) values
    fault

-- actual values, at the sorts of their parameters. A value whose parameter has a sort that the data lack is not read
abbrev pub ValuesHave : Signature → List Variable → List (Option ℕ) → List WrittenTerm → ScopeFault → Type 0
ValuesHave signature scope [] terms fault = ⊥
ValuesHave signature scope (sort ∷ sorts) [] fault = ⊥
ValuesHave signature scope (None ∷ sorts) (term ∷ terms) fault = ValuesHave signature scope sorts terms fault
ValuesHave signature scope (Some sort ∷ sorts) (term ∷ terms) fault =
    TermIs signature scope term (Some sort) (faulty fault) ⊎ ValuesHave signature scope sorts terms fault

-- the variables of a `let` with their terms: a sort that the data lack, or a term that is refused
abbrev pub BindingsHave : Signature → List Variable → ℕ → List (WrittenVariable × WrittenTerm) → ScopeFault → Type 0
BindingsHave signature scope next [] fault = ⊥
BindingsHave signature scope next (binding ∷ bindings) fault =
    BindingIs signature scope next binding (faulty fault) ⊎ BindingsHave signature scope (suc next) bindings fault

abbrev pub LetHas : Signature → List Variable → ℕ → List (WrittenVariable × WrittenTerm) → ScopeFault → Type 0
LetHas signature scope next bindings fault =
    Doubled (placed_variables (let_names bindings)) fault ⊎ BindingsHave signature scope next bindings fault

-- the offers of an action
abbrev pub OffersFollowing : Signature → List Variable → ℕ → List WrittenOffer → ScopeFault → Type 0
OffersFollowing signature scope next [] fault = ⊥
OffersFollowing signature scope next (offer ∷ offers) fault =
    OfferIs signature scope next offer (faulty fault) ⊎ OffersFollowing signature scope (past_offer offer next) offers fault

abbrev pub OffersHave : Signature → List Variable → ℕ → List WrittenOffer → ScopeFault → Type 0
OffersHave signature scope next offers fault =
    Doubled (placed_variables (asked_for offers)) fault ⊎ OffersFollowing signature scope next offers fault

-- the gates that the declared gates of a `choice` or a `par` stand for; each list sees the names before it
abbrev pub AmongHave : List Binding → ℕ → List WrittenGateChoice → ScopeFault → Type 0
AmongHave gates next [] fault = ⊥
AmongHave gates next (declared ∷ others) fault =
    GatesHave gates declared.among fault ⊎ AmongHave (bind declared.name next gates) (suc next) others fault

abbrev pub ChoicesHave : List Binding → ℕ → List WrittenGateChoice → ScopeFault → Type 0
ChoicesHave gates next declared fault = Doubled (placed_choices declared) fault ⊎ AmongHave gates next declared fault

-- the gates of a parallel sign
abbrev pub SignHas : List Binding → WrittenSign → ScopeFault → Type 0
SignHas gates choice_sign fault = ⊥
SignHas gates interleaving fault = ⊥
SignHas gates full_synchronisation fault = ⊥
SignHas gates (synchronising names) fault = GatesHave gates names fault
SignHas gates disabling fault = ⊥
SignHas gates (enabling variables) fault = ⊥

-- the sign of a `par`, at the `par` of each declared gate
abbrev pub SignsHave : List Binding → ℕ → WrittenSign → List WrittenGateChoice → ScopeFault → Type 0
SignsHave gates next sign [] fault = ⊥
SignsHave gates next sign (declared ∷ others) fault =
    SignHas gates sign fault ⊎ SignsHave (bind declared.name next gates) (suc next) sign others fault
