-- Where the faults of lists of names, of declarations and of terms stand.
use Rattle.std.proofs.Common.{◌≡◌, List, [], ◌∷◌, inl, inr, ap, sym}
use Rattle.std.specs.Prelude.{ℕ, suc, Option, None, Some}
use Rattle.scope_parts.proofs.FormedLists.{never_faulty}
use Rattle.lotos_base.specs.Equation.{Place, Variable}
use Rattle.lotos_base.specs.Signature.{Signature}
use Rattle.lotos_base.specs.WrittenTerm.{PlacedName, WrittenTerm}
use Rattle.syntax_trees.specs.WrittenVariable.{WrittenVariable}
use Rattle.syntax_trees.specs.WrittenBehaviour.{WrittenSign, choice_sign, interleaving, full_synchronisation, synchronising, disabling, enabling, WrittenGateChoice, WrittenExitValue, exit_term, exit_any, WrittenOffer, offer_value, offer_variable}
use Rattle.scope_parts.specs.ScopeFault.{ScopeFault, fault_place, unknown_gate, unknown_sort}
use Rattle.scope_parts.specs.Resolution.{resolved, faulty, and_then}
use Rattle.scope_parts.specs.Scope.{Binding, bind, bound_to, found_gate, gate_at}
use Rattle.lotos_base.specs.Names.{folded}
use Rattle.scope_parts.specs.Numbering.{asked_for}
use Rattle.scope_parts.specs.Sorts.{found_sort, sort_named, sort_at, variable_at, placed_variables}
use Rattle.scope_parts.specs.Terms.{ExitValueIs, BindingIs, OfferIs, past_offer, let_names}
use Rattle.scope_parts.specs.Choices.{placed_choices}
use Rattle.scope_parts.specs.Order.{joined_places}
use Rattle.scope_parts.specs.TermPlaces.{name_places, term_places}
use Rattle.scope_parts.specs.PartFaults.{GatesHave, SortsHave, VariableSortsHave, VariablesHave, ExitValuesHave, ValuesHave, BindingsHave, LetHas, OffersFollowing, OffersHave, AmongHave, ChoicesHave, SignHas, SignsHave}
use Rattle.scope_parts.specs.PartPlaces.{sort_places, variable_places, exit_value_places, exit_places, value_places, binding_places, bindings_places, let_places, offer_places, offered_places, offers_places, among_places, choice_places, sign_places}
use Rattle.scope_parts.proofs.OrderLemmas.{in_left, in_right}
use Rattle.scope_parts.proofs.TellsLemmas.{Within, same_fault}
use Rattle.scope_parts.proofs.DoubledLemmas.{doubled_within}
use Rattle.scope_parts.proofs.TermsWithin.{term_within}

-- ---- Names

pub gate_place : (gates : List Binding) (gate : PlacedName) (f : ScopeFault) → faulty f ≡ gate_at gates gate → fault_place f ≡ gate.place
gate_place gates gate f h = by_found (bound_to gates (folded gate.name)) h
  where
    by_found : (o : Option ℕ) → faulty f ≡ found_gate gate o → fault_place f ≡ gate.place
    by_found None e = ap fault_place (same_fault f (unknown_gate gate.place gate.name) e)
    by_found (Some n) e = never_faulty n f (sym e)

pub gates_within : (gates : List Binding) (names : List PlacedName) → Within (GatesHave gates names) (name_places names)
gates_within gates [] f h = absurd h
gates_within gates (gate ∷ names) f (inl h) = inl (gate_place gates gate f h)
gates_within gates (gate ∷ names) f (inr h) = inr (gates_within gates names f h)

pub sort_lacking : (signature : Signature) (place : Place) (name : List ℕ) (f : ScopeFault) → faulty f ≡ sort_at signature place name
    → f ≡ unknown_sort place name
sort_lacking signature place name f h = by_found (sort_named signature name) h
  where
    by_found : (o : Option ℕ) → faulty f ≡ found_sort place name o → f ≡ unknown_sort place name
    by_found None e = same_fault f (unknown_sort place name) e
    by_found (Some n) e = never_faulty n f (sym e)

pub sorts_within : (signature : Signature) (sorts : List PlacedName) → Within (SortsHave signature sorts) (name_places sorts)
sorts_within signature [] f h = absurd h
sorts_within signature (sort ∷ sorts) f (inl h) = inl (ap fault_place (sort_lacking signature sort.place sort.name f h))
sorts_within signature (sort ∷ sorts) f (inr h) = inr (sorts_within signature sorts f h)

-- ---- Variables

-- the variable with a sort that was found
abbrev numbered : WrittenVariable → ℕ → ℕ → Variable
numbered x next sort = record { name = x.name; number = next; sort = sort }

pub variable_lacking : (signature : Signature) (next : ℕ) (x : WrittenVariable) (f : ScopeFault) → faulty f ≡ variable_at signature next x
    → f ≡ unknown_sort x.sort_place x.sort
variable_lacking signature next x f h = by_found (sort_named signature x.sort) h
  where
    by_found : (o : Option ℕ) → faulty f ≡ and_then (found_sort x.sort_place x.sort o) (λ s. resolved (numbered x next s))
        → f ≡ unknown_sort x.sort_place x.sort
    by_found None e = same_fault f (unknown_sort x.sort_place x.sort) e
    by_found (Some n) e = never_faulty (numbered x next n) f (sym e)

pub variable_sorts_within : (signature : Signature) (next : ℕ) (xs : List WrittenVariable)
    → Within (VariableSortsHave signature next xs) (sort_places xs)
variable_sorts_within signature next [] f h = absurd h
variable_sorts_within signature next (x ∷ xs) f (inl h) = inl (ap fault_place (variable_lacking signature next x f h))
variable_sorts_within signature next (x ∷ xs) f (inr h) = inr (variable_sorts_within signature (suc next) xs f h)

pub variables_within : (signature : Signature) (next : ℕ) (xs : List WrittenVariable)
    → Within (VariablesHave signature next xs) (variable_places xs)
variables_within signature next xs f (inl h) =
    in_left (fault_place f) (name_places (placed_variables xs)) (sort_places xs) (doubled_within [] (placed_variables xs) f h)
variables_within signature next xs f (inr h) =
    in_right (fault_place f) (name_places (placed_variables xs)) (sort_places xs) (variable_sorts_within signature next xs f h)

-- ---- Terms

pub exit_value_within : (signature : Signature) (scope : List Variable) (v : WrittenExitValue)
    → Within (λ f. ExitValueIs signature scope v (faulty f)) (exit_value_places v)
exit_value_within signature scope (exit_term t) f h = term_within signature scope t None f h
exit_value_within signature scope (exit_any s) f h = inl (ap fault_place (sort_lacking signature s.place s.name f h))

pub exit_values_within : (signature : Signature) (scope : List Variable) (vs : List WrittenExitValue)
    → Within (ExitValuesHave signature scope vs) (joined_places (exit_places vs))
exit_values_within signature scope [] f h = absurd h
exit_values_within signature scope (v ∷ vs) f (inl h) =
    in_left (fault_place f) (exit_value_places v) (joined_places (exit_places vs)) (exit_value_within signature scope v f h)
exit_values_within signature scope (v ∷ vs) f (inr h) =
    in_right (fault_place f) (exit_value_places v) (joined_places (exit_places vs)) (exit_values_within signature scope vs f h)

pub values_within : (signature : Signature) (scope : List Variable) (sorts : List (Option ℕ)) (ts : List WrittenTerm)
    → Within (ValuesHave signature scope sorts ts) (joined_places (value_places ts))
values_within signature scope [] ts f h = absurd h
values_within signature scope (s ∷ sorts) [] f h = absurd h
values_within signature scope (None ∷ sorts) (t ∷ ts) f h =
    in_right (fault_place f) (term_places t) (joined_places (value_places ts)) (values_within signature scope sorts ts f h)
values_within signature scope (Some s ∷ sorts) (t ∷ ts) f (inl h) =
    in_left (fault_place f) (term_places t) (joined_places (value_places ts)) (term_within signature scope t (Some s) f h)
values_within signature scope (Some s ∷ sorts) (t ∷ ts) f (inr h) =
    in_right (fault_place f) (term_places t) (joined_places (value_places ts)) (values_within signature scope sorts ts f h)

pub binding_within : (signature : Signature) (scope : List Variable) (next : ℕ) (b : WrittenVariable × WrittenTerm)
    → Within (λ f. BindingIs signature scope next b (faulty f)) (binding_places b)
binding_within signature scope next b f (inl h) = inl (ap fault_place (variable_lacking signature next b.0 f h))
binding_within signature scope next b f (inr h) = inr (term_within signature scope b.1 (Some h.0.sort) f h.2)

pub bindings_within : (signature : Signature) (scope : List Variable) (next : ℕ) (bs : List (WrittenVariable × WrittenTerm))
    → Within (BindingsHave signature scope next bs) (joined_places (bindings_places bs))
bindings_within signature scope next [] f h = absurd h
bindings_within signature scope next (b ∷ bs) f (inl h) =
    in_left (fault_place f) (binding_places b) (joined_places (bindings_places bs)) (binding_within signature scope next b f h)
bindings_within signature scope next (b ∷ bs) f (inr h) =
    in_right (fault_place f) (binding_places b) (joined_places (bindings_places bs)) (bindings_within signature scope (suc next) bs f h)

pub let_within : (signature : Signature) (scope : List Variable) (next : ℕ) (bs : List (WrittenVariable × WrittenTerm))
    → Within (LetHas signature scope next bs) (let_places bs)
let_within signature scope next bs f (inl h) =
    in_left (fault_place f) (name_places (placed_variables (let_names bs))) (joined_places (bindings_places bs))
    (doubled_within [] (placed_variables (let_names bs)) f h)
let_within signature scope next bs f (inr h) =
    in_right (fault_place f) (name_places (placed_variables (let_names bs))) (joined_places (bindings_places bs))
    (bindings_within signature scope next bs f h)

pub offer_within : (signature : Signature) (scope : List Variable) (next : ℕ) (o : WrittenOffer)
    → Within (λ f. OfferIs signature scope next o (faulty f)) (offer_places o)
offer_within signature scope next (offer_value t) f h = term_within signature scope t None f h
offer_within signature scope next (offer_variable x) f h = inl (ap fault_place (variable_lacking signature next x f h))

pub offers_following_within : (signature : Signature) (scope : List Variable) (next : ℕ) (os : List WrittenOffer)
    → Within (OffersFollowing signature scope next os) (joined_places (offered_places os))
offers_following_within signature scope next [] f h = absurd h
offers_following_within signature scope next (o ∷ os) f (inl h) =
    in_left (fault_place f) (offer_places o) (joined_places (offered_places os)) (offer_within signature scope next o f h)
offers_following_within signature scope next (o ∷ os) f (inr h) =
    in_right (fault_place f) (offer_places o) (joined_places (offered_places os))
    (offers_following_within signature scope (past_offer o next) os f h)

pub offers_within : (signature : Signature) (scope : List Variable) (next : ℕ) (os : List WrittenOffer)
    → Within (OffersHave signature scope next os) (offers_places os)
offers_within signature scope next os f (inl h) =
    in_left (fault_place f) (name_places (placed_variables (asked_for os))) (joined_places (offered_places os))
    (doubled_within [] (placed_variables (asked_for os)) f h)
offers_within signature scope next os f (inr h) =
    in_right (fault_place f) (name_places (placed_variables (asked_for os))) (joined_places (offered_places os))
    (offers_following_within signature scope next os f h)

-- ---- Declared gates, and signs

pub among_within : (gates : List Binding) (next : ℕ) (ds : List WrittenGateChoice) → Within (AmongHave gates next ds) (among_places ds)
among_within gates next [] f h = absurd h
among_within gates next (d ∷ ds) f (inl h) =
    in_left (fault_place f) (name_places d.among) (among_places ds) (gates_within gates d.among f h)
among_within gates next (d ∷ ds) f (inr h) =
    in_right (fault_place f) (name_places d.among) (among_places ds) (among_within (bind d.name next gates) (suc next) ds f h)

pub choices_within : (gates : List Binding) (next : ℕ) (ds : List WrittenGateChoice) → Within (ChoicesHave gates next ds) (choice_places ds)
choices_within gates next ds f (inl h) =
    in_left (fault_place f) (name_places (placed_choices ds)) (among_places ds) (doubled_within [] (placed_choices ds) f h)
choices_within gates next ds f (inr h) =
    in_right (fault_place f) (name_places (placed_choices ds)) (among_places ds) (among_within gates next ds f h)

pub sign_within : (gates : List Binding) (sign : WrittenSign) → Within (SignHas gates sign) (sign_places sign)
sign_within gates choice_sign f h = absurd h
sign_within gates interleaving f h = absurd h
sign_within gates full_synchronisation f h = absurd h
sign_within gates (synchronising names) f h = gates_within gates names f h
sign_within gates disabling f h = absurd h
sign_within gates (enabling variables) f h = absurd h

pub signs_within : (gates : List Binding) (next : ℕ) (sign : WrittenSign) (ds : List WrittenGateChoice)
    → Within (SignsHave gates next sign ds) (sign_places sign)
signs_within gates next sign [] f h = absurd h
signs_within gates next sign (d ∷ ds) f (inl h) = sign_within gates sign f h
signs_within gates next sign (d ∷ ds) f (inr h) = signs_within (bind d.name next gates) (suc next) sign ds f h
