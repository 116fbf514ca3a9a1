-- Lists of names, of declarations and of terms tell the first of their faults.
use Rattle.std.proofs.Common.{◌≡◌, List, [], ◌∷◌, true, inl, inr, refl, ap, sym, subst, arith}
use Rattle.std.specs.Prelude.{◌⊎◌, ℕ, suc, Bool, false, Option, None, Some, if◌then◌else◌}
use Rattle.std.specs.Str.{bytes_eq}
use Rattle.scope_parts.proofs.FormedLists.{never_faulty}
use Rattle.lotos_base.specs.Names.{folded}
use Rattle.lotos_base.specs.Equation.{Place, Variable}
use Rattle.lotos_base.specs.Signature.{Signature}
use Rattle.lotos_base.specs.WrittenTerm.{PlacedName, WrittenTerm}
use Rattle.syntax_trees.specs.WrittenVariable.{WrittenVariable}
use Rattle.syntax_trees.specs.WrittenEquation.{WrittenPremiss}
use Rattle.syntax_trees.specs.WrittenBehaviour.{WrittenSign, choice_sign, interleaving, full_synchronisation, synchronising, disabling, enabling, WrittenGateChoice, WrittenExitValue, exit_term, exit_any, WrittenOffer, offer_value, offer_variable}
use Rattle.behaviour_semantics.specs.WellFormed.{Every}
use Rattle.sort_terms.proofs.ReadsLemmas.{comes_once}
use Rattle.scope_parts.specs.ScopeFault.{ScopeFault, fault_place, stands_before, unknown_sort}
use Rattle.scope_parts.specs.Resolution.{resolved, faulty, and_then, put_in_front, Is}
use Rattle.scope_parts.specs.Scope.{Binding, bind, bound_to, found_gate, gate_at, gates_at}
use Rattle.scope_parts.specs.Numbering.{asked_for}
use Rattle.scope_parts.specs.Sorts.{Truth, truth_in, sort_at, sorts_at, variable_at, sorted_variables, placed_variables, variables_at}
use Rattle.scope_parts.specs.Terms.{TermIs, TrueTermIs, PremissIs, TestIs, TestOptionIs, ExitValueIs, ExitValuesAre, ValuesAre, BindingIs, BindingsAre, LetIs, let_names, OfferIs, OffersFollow, OffersAre, past_offer}
use Rattle.scope_parts.specs.Choices.{sign_at, choices_follow, signs_follow, placed_choices, choices_at, par_choices_at, with_signs}
use Rattle.behaviour_semantics.specs.Behaviour.{at_gates}
use Rattle.scope_parts.proofs.OnceLemmas.{Once, is_once, then_once, made_once, in_front_once, beside_once, outcome_once}
use Rattle.scope_parts.specs.Order.{IsOneOfPlaces, StandWhollyBefore, InTurn, Rising, joined_places, NotAfter}
use Rattle.scope_parts.specs.TermPlaces.{name_places, term_places}
use Rattle.scope_parts.specs.PartFaults.{GatesHave, SortsHave, VariableSortsHave, VariablesHave, ExitValuesHave, ValuesHave, BindingsHave, LetHas, OffersFollowing, OffersHave, AmongHave, ChoicesHave, SignHas, SignsHave}
use Rattle.scope_parts.specs.PartPlaces.{SortsFollow, VariablesFollow, exit_value_places, exit_places, value_places, binding_places, bindings_places, LetFollows, OfferFollows, OffersInTurn, OffersFollowOn, AmongFollow, ChoicesFollow, choice_places, sign_places, SignFollows}
use Rattle.scope_parts.specs.FirstFault.{TellsFirstFault}
use Rattle.scope_parts.proofs.OrderLemmas.{in_either}
use Rattle.scope_parts.proofs.TellsLemmas.{Apart, apart, answers_within, single_tells, done_tells, then_tells, in_front_tells, and_then_tells, put_in_front_tells, value_tells}
use Rattle.scope_parts.proofs.DoubledLemmas.{beside_tells, beside_is_tells}
use Rattle.scope_parts.proofs.TermsWithin.{term_within}
use Rattle.scope_parts.proofs.PartsWithin.{gate_place, gates_within, sort_lacking, sorts_within, variable_lacking, exit_value_within, exit_values_within, values_within, binding_within, bindings_within, offer_within, choices_within, signs_within}

-- a list before each of some lists is before all of them
pub before_all : (ps : List Place) (rest : List (List Place)) → Every (StandWhollyBefore ps) rest
    → StandWhollyBefore ps (joined_places rest)
before_all ps [] all p q here there = absurd there
before_all ps (qs ∷ rest) all p q here there =
    by_side (in_either q qs (joined_places rest) there) (λ is. before_all ps rest all.1 p q here is)
  where
    by_side : IsOneOfPlaces q qs ⊎ IsOneOfPlaces q (joined_places rest) → (IsOneOfPlaces q (joined_places rest) → stands_before p q ≡ true)
        → stands_before p q ≡ true
    by_side (inl is) later = all.0 p q here is
    by_side (inr is) later = later is

-- ---- Names

pub gates_tell : (gates : List Binding) (names : List PlacedName) → Rising (name_places names)
    → TellsFirstFault (Is (gates_at gates names)) (GatesHave gates names)
gates_tell gates [] rise = done_tells []
gates_tell gates (gate ∷ names) rise =
    and_then_tells (gate_at gates gate) (λ number. put_in_front number (gates_at gates names)) (single_tells (is_once (gate_at gates gate)))
    (λ number is. put_in_front_tells number (gates_at gates names) (gates_tell gates names rise.1))
    (apart (gate.place ∷ []) (name_places names) (λ f h. inl (gate_place gates gate f h)) (gates_within gates names) rise.0)

pub sorts_tell : (signature : Signature) (sorts : List PlacedName) → Rising (name_places sorts)
    → TellsFirstFault (Is (sorts_at signature sorts)) (SortsHave signature sorts)
sorts_tell signature [] rise = done_tells []
sorts_tell signature (sort ∷ sorts) rise =
    and_then_tells (sort_at signature sort.place sort.name) (λ number. put_in_front number (sorts_at signature sorts))
    (single_tells (is_once (sort_at signature sort.place sort.name)))
    (λ number is. put_in_front_tells number (sorts_at signature sorts) (sorts_tell signature sorts rise.1))
    (apart (sort.place ∷ []) (name_places sorts) (λ f h. inl (ap fault_place (sort_lacking signature sort.place sort.name f h)))
    (sorts_within signature sorts) rise.0)

-- ---- Variables

-- two sorts that the data lack, the first one before the other or at its place
sorts_apart : (p q : Place) (m n : List ℕ) (f g : ScopeFault) → f ≡ unknown_sort p m → g ≡ unknown_sort q n
    → (p ≡ q) ⊎ StandWhollyBefore (p ∷ []) (q ∷ []) → NotAfter f g
sorts_apart p q m n f g one other side =
    subst (λ (x : ScopeFault). NotAfter x g) (sym one) (subst (λ (y : ScopeFault). NotAfter (unknown_sort p m) y) (sym other)
    (by_side side))
  where
    by_side : (p ≡ q) ⊎ StandWhollyBefore (p ∷ []) (q ∷ []) → NotAfter (unknown_sort p m) (unknown_sort q n)
    by_side (inl is) = inr (is, omega arith)
    by_side (inr is) = inl (is p q (inl refl) (inl refl))

variable_apart : (signature : Signature) (at next : ℕ) (x : WrittenVariable) (xs : List WrittenVariable)
    → Every (λ (y : WrittenVariable). (x.sort_place ≡ y.sort_place) ⊎ StandWhollyBefore (x.sort_place ∷ []) (y.sort_place ∷ [])) xs
    → Apart (λ f. faulty f ≡ variable_at signature at x) (VariableSortsHave signature next xs)
variable_apart signature at next x [] all f g h k = absurd k
variable_apart signature at next x (y ∷ xs) all f g h (inl k) =
    sorts_apart x.sort_place y.sort_place x.sort y.sort f g (variable_lacking signature at x f h) (variable_lacking signature next y g k)
    all.0
variable_apart signature at next x (y ∷ xs) all f g h (inr k) = variable_apart signature at (suc next) x xs all.1 f g h k

variable_sorts_tell : (signature : Signature) (next : ℕ) (xs : List WrittenVariable) → SortsFollow xs
    → TellsFirstFault (Is (sorted_variables signature next xs)) (VariableSortsHave signature next xs)
variable_sorts_tell signature next [] follow = done_tells []
variable_sorts_tell signature next (x ∷ xs) follow =
    and_then_tells (variable_at signature next x) (λ v. put_in_front v (sorted_variables signature (suc next) xs))
    (single_tells (is_once (variable_at signature next x)))
    (λ v is. put_in_front_tells v (sorted_variables signature (suc next) xs) (variable_sorts_tell signature (suc next) xs follow.1))
    (variable_apart signature next (suc next) x xs follow.0)

pub variables_tell : (signature : Signature) (next : ℕ) (xs : List WrittenVariable) → VariablesFollow xs
    → TellsFirstFault (Is (variables_at signature next xs)) (VariablesHave signature next xs)
variables_tell signature next xs follow =
    beside_is_tells (placed_variables xs) (sorted_variables signature next xs) follow.0 (variable_sorts_tell signature next xs follow.1)

-- ---- Terms

pub term_once : (signature : Signature) (scope : List Variable) (w : WrittenTerm) (expected : Option ℕ)
    → Once (TermIs signature scope w expected)
term_once signature scope w expected = made_once _ (outcome_once _ (comes_once _ _ _))

premiss_once : (signature : Signature) (scope : List Variable) (p : WrittenPremiss) (right : Option WrittenTerm)
    → Once (PremissIs signature scope p right)
premiss_once signature scope p None = by_truth (truth_in signature)
  where
    by_truth : (truth : Option Truth) → Once (TrueTermIs signature scope p truth)
    by_truth None = is_once _
    by_truth (Some truth) = made_once _ (term_once signature scope p.left (Some truth.sort))
premiss_once signature scope p (Some right) = made_once _ (outcome_once _ (comes_once _ _ _))

pub test_once : (signature : Signature) (scope : List Variable) (p : WrittenPremiss) → Once (TestIs signature scope p)
test_once signature scope p = premiss_once signature scope p p.right

pub test_option_once : (signature : Signature) (scope : List Variable) (p : Option WrittenPremiss) → Once (TestOptionIs signature scope p)
test_option_once signature scope None = is_once _
test_option_once signature scope (Some p) = made_once _ (test_once signature scope p)

exit_value_once : (signature : Signature) (scope : List Variable) (v : WrittenExitValue) → Once (ExitValueIs signature scope v)
exit_value_once signature scope (exit_term t) = made_once _ (term_once signature scope t None)
exit_value_once signature scope (exit_any s) = made_once _ (is_once _)

binding_once : (signature : Signature) (scope : List Variable) (number : ℕ) (b : WrittenVariable × WrittenTerm)
    → Once (BindingIs signature scope number b)
binding_once signature scope number b =
    then_once (is_once _) (λ (x : Variable). made_once _ (term_once signature scope b.1 (Some x.sort)))

bindings_once : (signature : Signature) (scope : List Variable) (next : ℕ) (bs : List (WrittenVariable × WrittenTerm))
    → Once (BindingsAre signature scope next bs)
bindings_once signature scope next [] = is_once _
bindings_once signature scope next (b ∷ bs) =
    then_once (binding_once signature scope next b) (λ x. in_front_once x (bindings_once signature scope _ bs))

pub let_once : (signature : Signature) (scope : List Variable) (next : ℕ) (bs : List (WrittenVariable × WrittenTerm))
    → Once (LetIs signature scope next bs)
let_once signature scope next bs = beside_once _ (bindings_once signature scope next bs)

offer_once : (signature : Signature) (scope : List Variable) (number : ℕ) (o : WrittenOffer) → Once (OfferIs signature scope number o)
offer_once signature scope number (offer_value t) = made_once _ (term_once signature scope t None)
offer_once signature scope number (offer_variable v) = made_once _ (is_once _)

offers_follow_once : (signature : Signature) (scope : List Variable) (next : ℕ) (os : List WrittenOffer)
    → Once (OffersFollow signature scope next os)
offers_follow_once signature scope next [] = is_once _
offers_follow_once signature scope next (o ∷ os) =
    then_once (offer_once signature scope next o) (λ x. in_front_once x (offers_follow_once signature scope _ os))

pub offers_once : (signature : Signature) (scope : List Variable) (next : ℕ) (os : List WrittenOffer)
    → Once (OffersAre signature scope next os)
offers_once signature scope next os = beside_once _ (offers_follow_once signature scope next os)

pub exit_values_tell : (signature : Signature) (scope : List Variable) (vs : List WrittenExitValue) → InTurn (exit_places vs)
    → TellsFirstFault (ExitValuesAre signature scope vs) (ExitValuesHave signature scope vs)
exit_values_tell signature scope [] turn = done_tells []
exit_values_tell signature scope (v ∷ vs) turn =
    then_tells (single_tells (exit_value_once signature scope v))
    (λ x is. in_front_tells x (exit_values_tell signature scope vs turn.1))
    (apart (exit_value_places v) (joined_places (exit_places vs)) (exit_value_within signature scope v)
    (exit_values_within signature scope vs)
    (before_all (exit_value_places v) (exit_places vs) turn.0))

pub values_tell : (signature : Signature) (scope : List Variable) (sorts : List (Option ℕ)) (ts : List WrittenTerm)
    → InTurn (value_places ts) → TellsFirstFault (ValuesAre signature scope sorts ts) (ValuesHave signature scope sorts ts)
values_tell signature scope [] ts turn = done_tells []
values_tell signature scope (s ∷ sorts) [] turn = done_tells []
values_tell signature scope (None ∷ sorts) (t ∷ ts) turn = values_tell signature scope sorts ts turn.1
values_tell signature scope (Some s ∷ sorts) (t ∷ ts) turn =
    then_tells (single_tells (term_once signature scope t (Some s)))
    (λ x is. in_front_tells x (values_tell signature scope sorts ts turn.1))
    (apart (term_places t) (joined_places (value_places ts)) (term_within signature scope t (Some s))
    (values_within signature scope sorts ts)
    (before_all (term_places t) (value_places ts) turn.0))

bindings_tell : (signature : Signature) (scope : List Variable) (next : ℕ) (bs : List (WrittenVariable × WrittenTerm))
    → InTurn (bindings_places bs) → TellsFirstFault (BindingsAre signature scope next bs) (BindingsHave signature scope next bs)
bindings_tell signature scope next [] turn = done_tells []
bindings_tell signature scope next (b ∷ bs) turn =
    then_tells (single_tells (binding_once signature scope next b))
    (λ x is. in_front_tells x (bindings_tell signature scope (suc next) bs turn.1))
    (apart (binding_places b) (joined_places (bindings_places bs)) (binding_within signature scope next b)
    (bindings_within signature scope (suc next) bs) (before_all (binding_places b) (bindings_places bs) turn.0))

pub let_tells : (signature : Signature) (scope : List Variable) (next : ℕ) (bs : List (WrittenVariable × WrittenTerm)) → LetFollows bs
    → TellsFirstFault (LetIs signature scope next bs) (LetHas signature scope next bs)
let_tells signature scope next bs follow =
    beside_tells (placed_variables (let_names bs)) follow.0 (bindings_tell signature scope next bs follow.1)

offer_apart : (signature : Signature) (scope : List Variable) (at next : ℕ) (o p : WrittenOffer) → OfferFollows o p
    → Apart (λ f. OfferIs signature scope at o (faulty f)) (λ f. OfferIs signature scope next p (faulty f))
offer_apart signature scope at next (offer_value t) p follow f g h k =
    inl (follow (fault_place f) (fault_place g) (offer_within signature scope at (offer_value t) f h)
    (offer_within signature scope next p g k))
offer_apart signature scope at next (offer_variable x) (offer_value t) follow f g h k =
    inl (follow (fault_place f) (fault_place g) (offer_within signature scope at (offer_variable x) f h)
    (offer_within signature scope next (offer_value t) g k))
offer_apart signature scope at next (offer_variable x) (offer_variable y) follow f g h k =
    sorts_apart x.sort_place y.sort_place x.sort y.sort f g (variable_lacking signature at x f h) (variable_lacking signature next y g k)
    follow

offers_apart : (signature : Signature) (scope : List Variable) (at next : ℕ) (o : WrittenOffer) (os : List WrittenOffer)
    → Every (OfferFollows o) os → Apart (λ f. OfferIs signature scope at o (faulty f)) (OffersFollowing signature scope next os)
offers_apart signature scope at next o [] all f g h k = absurd k
offers_apart signature scope at next o (p ∷ os) all f g h (inl k) = offer_apart signature scope at next o p all.0 f g h k
offers_apart signature scope at next o (p ∷ os) all f g h (inr k) =
    offers_apart signature scope at (past_offer p next) o os all.1 f g h k

offers_follow_tell : (signature : Signature) (scope : List Variable) (next : ℕ) (os : List WrittenOffer) → OffersInTurn os
    → TellsFirstFault (OffersFollow signature scope next os) (OffersFollowing signature scope next os)
offers_follow_tell signature scope next [] turn = done_tells []
offers_follow_tell signature scope next (o ∷ os) turn =
    then_tells (single_tells (offer_once signature scope next o))
    (λ x is. in_front_tells x (offers_follow_tell signature scope (past_offer o next) os turn.1))
    (offers_apart signature scope next (past_offer o next) o os turn.0)

pub offers_tell : (signature : Signature) (scope : List Variable) (next : ℕ) (os : List WrittenOffer) → OffersFollowOn os
    → TellsFirstFault (OffersAre signature scope next os) (OffersHave signature scope next os)
offers_tell signature scope next os follow =
    beside_tells (placed_variables (asked_for os)) follow.0 (offers_follow_tell signature scope next os follow.1)

-- ---- Declared gates, and signs

-- a gate that is not visible where more is visible is not visible where less is
still_lacking : (gates : List Binding) (name : List ℕ) (n : ℕ) (gate : PlacedName) (f : ScopeFault)
    → faulty f ≡ gate_at (bind name n gates) gate → faulty f ≡ gate_at gates gate
still_lacking gates name n gate f h = by_test (bytes_eq (folded gate.name) (folded name)) h
  where
    by_test : (b : Bool) → faulty f ≡ found_gate gate (if b then Some n else bound_to gates (folded gate.name))
        → faulty f ≡ gate_at gates gate
    by_test true e = never_faulty n f (sym e)
    by_test false e = e

gates_still : (gates : List Binding) (name : List ℕ) (n : ℕ) (names : List PlacedName) (f : ScopeFault)
    → GatesHave (bind name n gates) names f → GatesHave gates names f
gates_still gates name n [] f h = h
gates_still gates name n (gate ∷ names) f (inl h) = inl (still_lacking gates name n gate f h)
gates_still gates name n (gate ∷ names) f (inr h) = inr (gates_still gates name n names f h)

-- the gates of a declaration and those behind it, which are looked at where at least as much is visible
abbrev Lacking : List Binding → List Binding → Type 0
Lacking gates more = (names : List PlacedName) (f : ScopeFault) → GatesHave more names f → GatesHave gates names f

among_apart : (gates more : List Binding) (next : ℕ) (d : WrittenGateChoice) (ds : List WrittenGateChoice) → Lacking gates more
    → Rising (name_places d.among)
    → Every (λ (e : WrittenGateChoice). (d.among ≡ e.among) ⊎ StandWhollyBefore (name_places d.among) (name_places e.among)) ds
    → (f g : ScopeFault) → faulty f ≡ gates_at gates d.among → AmongHave more next ds g → NotAfter f g
among_apart gates more next d [] lack rise all f g h k = absurd k
among_apart gates more next d (e ∷ ds) lack rise all f g h (inl k) = by_side all.0
  where
    tells : TellsFirstFault (Is (gates_at gates d.among)) (GatesHave gates d.among)
    tells = gates_tell gates d.among rise

    by_side : (d.among ≡ e.among) ⊎ StandWhollyBefore (name_places d.among) (name_places e.among) → NotAfter f g
    by_side (inl is) = tells.first f g h (subst (λ (names : List PlacedName). GatesHave gates names g) (sym is) (lack e.among g k))
    by_side (inr is) =
        apart (name_places d.among) (name_places e.among) (gates_within gates d.among) (gates_within more e.among) is f g (tells.found f h)
        k
among_apart gates more next d (e ∷ ds) lack rise all f g h (inr k) =
    among_apart gates (bind e.name next more) (suc next) d ds (λ names x has. lack names x (gates_still more e.name next names x has)) rise
    all.1 f g h k

among_tell : (gates : List Binding) (next : ℕ) (ds : List WrittenGateChoice) → AmongFollow ds
    → TellsFirstFault (Is (choices_follow gates next ds)) (AmongHave gates next ds)
among_tell gates next [] follow = done_tells []
among_tell gates next (d ∷ ds) follow =
    and_then_tells (gates_at gates d.among)
    (λ among. put_in_front (record { gate = next; among = among }) (choices_follow (bind d.name next gates) (suc next) ds))
    (gates_tell gates d.among follow.0)
    (λ among is. put_in_front_tells (record { gate = next; among = among }) (choices_follow (bind d.name next gates) (suc next) ds)
    (among_tell (bind d.name next gates) (suc next) ds follow.2))
    (among_apart gates (bind d.name next gates) (suc next) d ds (gates_still gates d.name next) follow.0 follow.1)

pub choices_tell : (gates : List Binding) (next : ℕ) (ds : List WrittenGateChoice) → ChoicesFollow ds
    → TellsFirstFault (Is (choices_at gates next ds)) (ChoicesHave gates next ds)
choices_tell gates next ds follow =
    beside_is_tells (placed_choices ds) (choices_follow gates next ds) follow.0 (among_tell gates next ds follow.1)

sign_tells : (gates : List Binding) (sign : WrittenSign) → SignFollows sign → TellsFirstFault (Is (sign_at gates sign)) (SignHas gates sign)
sign_tells gates choice_sign follow = done_tells _
sign_tells gates interleaving follow = done_tells _
sign_tells gates full_synchronisation follow = done_tells _
sign_tells gates (synchronising names) follow = value_tells (gates_at gates names) at_gates (gates_tell gates names follow)
sign_tells gates disabling follow = done_tells _
sign_tells gates (enabling variables) follow = done_tells _

sign_still : (gates : List Binding) (name : List ℕ) (n : ℕ) (sign : WrittenSign) (f : ScopeFault)
    → SignHas (bind name n gates) sign f → SignHas gates sign f
sign_still gates name n choice_sign f h = h
sign_still gates name n interleaving f h = h
sign_still gates name n full_synchronisation f h = h
sign_still gates name n (synchronising names) f h = gates_still gates name n names f h
sign_still gates name n disabling f h = h
sign_still gates name n (enabling variables) f h = h

-- where more is visible the sign lacks no other gates
signs_still : (gates more : List Binding) (next : ℕ) (sign : WrittenSign) (ds : List WrittenGateChoice)
    → ((f : ScopeFault) → SignHas more sign f → SignHas gates sign f) → (f : ScopeFault) → SignsHave more next sign ds f
    → SignHas gates sign f
signs_still gates more next sign [] lack f h = absurd h
signs_still gates more next sign (d ∷ ds) lack f (inl h) = lack f h
signs_still gates more next sign (d ∷ ds) lack f (inr h) =
    signs_still gates (bind d.name next more) (suc next) sign ds (λ g k. lack g (sign_still more d.name next sign g k)) f h

pub signs_tell : (gates : List Binding) (next : ℕ) (sign : WrittenSign) (ds : List WrittenGateChoice) → SignFollows sign
    → TellsFirstFault (Is (signs_follow gates next sign ds)) (SignsHave gates next sign ds)
signs_tell gates next sign [] follow = done_tells []
signs_tell gates next sign (d ∷ ds) follow =
    and_then_tells (sign_at gates sign)
    (λ meet. put_in_front meet (signs_follow (bind d.name next gates) (suc next) sign ds)) (sign_tells gates sign follow)
    (λ meet is. put_in_front_tells meet (signs_follow (bind d.name next gates) (suc next) sign ds)
    (signs_tell (bind d.name next gates) (suc next) sign ds follow))
    (λ f g h k. (sign_tells gates sign follow).first f g h
    (signs_still gates (bind d.name next gates) (suc next) sign ds (sign_still gates d.name next sign) g k))

pub par_choices_tell : (gates : List Binding) (next : ℕ) (sign : WrittenSign) (ds : List WrittenGateChoice) → ChoicesFollow ds
    → SignFollows sign → StandWhollyBefore (choice_places ds) (sign_places sign)
    → TellsFirstFault (Is (par_choices_at gates next sign ds)) (λ f. ChoicesHave gates next ds f ⊎ SignsHave gates next sign ds f)
par_choices_tell gates next sign ds follow behind before =
    and_then_tells (choices_at gates next ds)
    (λ choices. and_then (signs_follow gates next sign ds) (λ meets. resolved (with_signs choices meets)))
    (choices_tell gates next ds follow)
    (λ choices is. value_tells (signs_follow gates next sign ds) (with_signs choices) (signs_tell gates next sign ds behind))
    (apart (choice_places ds) (sign_places sign)
    (answers_within (choice_places ds) (choices_tell gates next ds follow) (choices_within gates next ds))
    (signs_within gates next sign ds) before)
