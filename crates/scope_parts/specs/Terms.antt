-- What the terms in behaviours stand for: values of `exit`, actual values, terms of `let`, premisses and offers.
use Rattle.std.specs.Prelude.{ℕ, suc, List, [], ◌∷◌, Option, None, Some}
use Rattle.lotos_base.specs.Signature.{Signature}
use Rattle.lotos_base.specs.Term.{Term, node, no_terms}
use Rattle.lotos_base.specs.Equation.{Variable}
use Rattle.lotos_base.specs.WrittenTerm.{WrittenTerm}
use Rattle.syntax_trees.specs.WrittenVariable.{WrittenVariable}
use Rattle.syntax_trees.specs.WrittenEquation.{WrittenPremiss}
use Rattle.syntax_trees.specs.WrittenBehaviour.{WrittenExitValue, exit_term, exit_any, WrittenOffer, offer_value, offer_variable}
use Rattle.sort_terms.specs.ReadingOutcome.{ReadingOutcome, answered, refused, SortedTerm, SortedPair, ReadingIs, PairReadingIs}
use Rattle.behaviour_semantics.specs.Behaviour.{Test, Offer, give, ask, ExitValue, exit_value, any_of}
use Rattle.scope_parts.specs.ScopeFault.{unknown_gate, unknown_process, unknown_sort, double_name, gate_count, value_count, no_bool, refused_term}
use Rattle.scope_parts.specs.Resolution.{Resolution, resolved, faulty, Is, ThenResolves, Made, InFront, Beside}
use Rattle.scope_parts.specs.Scope.{first_double}
use Rattle.scope_parts.specs.Numbering.{asked_for}
use Rattle.scope_parts.specs.Sorts.{Truth, truth_in, variable_at, sort_at, placed_variables}

-- what a question about terms comes to, as a resolution: a refusal is the fault
abbrev pub AsResolution : {A : Type 0} → (ReadingOutcome A → Type 0) → Resolution A → Type 0
AsResolution ComesTo (resolved x) = ComesTo (answered x)
AsResolution ComesTo (faulty (unknown_gate place name)) = ⊥
AsResolution ComesTo (faulty (unknown_process place name)) = ⊥
AsResolution ComesTo (faulty (unknown_sort place name)) = ⊥
AsResolution ComesTo (faulty (double_name place name)) = ⊥
AsResolution ComesTo (faulty (gate_count place wanted given)) = ⊥
AsResolution ComesTo (faulty (value_count place wanted given)) = ⊥
AsResolution ComesTo (faulty (no_bool place)) = ⊥
AsResolution ComesTo (faulty (refused_term refusal)) = ComesTo (refused refusal)

-- the term with its sort, which is the expected one if one is expected
abbrev pub SortedTermIs : Signature → List Variable → WrittenTerm → Option ℕ → Resolution SortedTerm → Type 0
SortedTermIs signature scope term expected = AsResolution (ReadingIs signature scope term expected)

-- the term
abbrev pub TermIs : Signature → List Variable → WrittenTerm → Option ℕ → Resolution Term → Type 0
TermIs signature scope term expected = Made (λ (t : SortedTerm). t.term) (SortedTermIs signature scope term expected)

-- two terms of one sort, as a test
abbrev pub PairIs : Signature → List Variable → WrittenTerm → WrittenTerm → Resolution Test → Type 0
PairIs signature scope left right =
    Made (λ (pair : SortedPair). record { left = pair.left; right = pair.right })
    (AsResolution (PairReadingIs signature scope left right))

-- one term of the sort `Bool`, which has to be true
abbrev pub TrueTermIs : Signature → List Variable → WrittenPremiss → Option Truth → Resolution Test → Type 0
TrueTermIs signature scope premiss None = Is (faulty (no_bool premiss.place))
TrueTermIs signature scope premiss (Some truth) =
    Made (λ (t : Term). record { left = t; right = node truth.constant no_terms })
    (TermIs signature scope premiss.left (Some truth.sort))

-- a premiss
abbrev pub PremissIs : Signature → List Variable → WrittenPremiss → Option WrittenTerm → Resolution Test → Type 0
PremissIs signature scope premiss None = TrueTermIs signature scope premiss (truth_in signature)
PremissIs signature scope premiss (Some right) = PairIs signature scope premiss.left right

abbrev pub TestIs : Signature → List Variable → WrittenPremiss → Resolution Test → Type 0
TestIs signature scope premiss = PremissIs signature scope premiss premiss.right

-- a selection predicate, if there is one
abbrev pub TestOptionIs : Signature → List Variable → Option WrittenPremiss → Resolution (Option Test) → Type 0
TestOptionIs signature scope None = Is (resolved None)
TestOptionIs signature scope (Some premiss) = Made (λ test. Some test) (TestIs signature scope premiss)

-- a value of `exit`, whose term is read without an expected sort
abbrev pub ExitValueIs : Signature → List Variable → WrittenExitValue → Resolution ExitValue → Type 0
ExitValueIs signature scope (exit_term term) = Made (λ t. exit_value t) (TermIs signature scope term None)
ExitValueIs signature scope (exit_any sort) = Made (λ s. any_of s) (Is (sort_at signature sort.place sort.name))

abbrev pub ExitValuesAre : Signature → List Variable → List WrittenExitValue → Resolution (List ExitValue) → Type 0
ExitValuesAre signature scope [] = Is (resolved [])
ExitValuesAre signature scope (value ∷ values) =
    ThenResolves (ExitValueIs signature scope value) (λ x. InFront x (ExitValuesAre signature scope values))

-- actual values, read at the sorts of their parameters. A value whose parameter has a sort that the data lack is not read
abbrev pub ValuesAre : Signature → List Variable → List (Option ℕ) → List WrittenTerm → Resolution (List Term) → Type 0
ValuesAre signature scope [] terms = Is (resolved [])
ValuesAre signature scope (sort ∷ sorts) [] = Is (resolved [])
ValuesAre signature scope (None ∷ sorts) (term ∷ terms) = ValuesAre signature scope sorts terms
ValuesAre signature scope (Some sort ∷ sorts) (term ∷ terms) =
    ThenResolves (TermIs signature scope term (Some sort)) (λ t. InFront t (ValuesAre signature scope sorts terms))

-- a variable of a `let` with its number and its term, which is read at the variable's sort and does not see the variables of
-- this `let`
abbrev pub BindingIs : Signature → List Variable → ℕ → WrittenVariable × WrittenTerm → Resolution (Variable × Term) → Type 0
BindingIs signature scope number binding =
    ThenResolves (Is (variable_at signature number binding.0))
    (λ (x : Variable). Made (λ t. (x, t)) (TermIs signature scope binding.1 (Some x.sort)))

-- those of a list, numbered from a number on
abbrev pub BindingsAre : Signature → List Variable → ℕ → List (WrittenVariable × WrittenTerm) → Resolution (List (Variable × Term)) → Type 0
BindingsAre signature scope next [] = Is (resolved [])
BindingsAre signature scope next (binding ∷ bindings) =
    ThenResolves (BindingIs signature scope next binding) (λ x. InFront x (BindingsAre signature scope (suc next) bindings))

-- the variables that a `let` binds
abbrev pub let_names : List (WrittenVariable × WrittenTerm) → List WrittenVariable
let_names [] = []
let_names (binding ∷ bindings) = binding.0 ∷ let_names bindings

-- the same, in which no name may stand twice
abbrev pub LetIs : Signature → List Variable → ℕ → List (WrittenVariable × WrittenTerm) → Resolution (List (Variable × Term)) → Type 0
LetIs signature scope next bindings =
    Beside (first_double (placed_variables (let_names bindings))) (BindingsAre signature scope next bindings)

-- an offer of an action: a term, which is read without an expected sort and does not see the variables of this action, or a
-- variable with its number
abbrev pub OfferIs : Signature → List Variable → ℕ → WrittenOffer → Resolution Offer → Type 0
OfferIs signature scope number (offer_value term) = Made (λ t. give t) (TermIs signature scope term None)
OfferIs signature scope number (offer_variable variable) = Made (λ x. ask x) (Is (variable_at signature number variable))

-- the number of the next variable behind an offer
abbrev pub past_offer : WrittenOffer → ℕ → ℕ
past_offer (offer_value term) number = number
past_offer (offer_variable variable) number = suc number

-- the offers of an action, whose variables are numbered from a number on
abbrev pub OffersFollow : Signature → List Variable → ℕ → List WrittenOffer → Resolution (List Offer) → Type 0
OffersFollow signature scope next [] = Is (resolved [])
OffersFollow signature scope next (offer ∷ offers) =
    ThenResolves (OfferIs signature scope next offer) (λ x. InFront x (OffersFollow signature scope (past_offer offer next) offers))

-- the same, in which no variable may stand twice
abbrev pub OffersAre : Signature → List Variable → ℕ → List WrittenOffer → Resolution (List Offer) → Type 0
OffersAre signature scope next offers =
    Beside (first_double (placed_variables (asked_for offers))) (OffersFollow signature scope next offers)
