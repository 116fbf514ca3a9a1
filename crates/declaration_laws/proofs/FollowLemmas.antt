-- What is declared part by part follows on, each part with the next numbers.
use Rattle.std.proofs.Common.{◌≡◌, ℕ, zero, suc, ◌+◌, List, [], ◌∷◌, ◌++◌, map, length, slice_get, Some, refl, ap, sym, ◌∙◌, subst, arith}
use Rattle.std.proofs.lemmas.Option.{same_Some}
use Rattle.lotos_base.specs.Signature.{Signature}
use Rattle.lotos_base.specs.Equation.{Variable}
use Rattle.lotos_base.specs.Term.{Term}
use Rattle.lotos_base.specs.WrittenTerm.{PlacedName, WrittenTerm}
use Rattle.syntax_trees.specs.WrittenVariable.{WrittenVariable}
use Rattle.syntax_trees.specs.WrittenBehaviour.{WrittenSign, WrittenGateChoice, WrittenOffer, offer_value, offer_variable}
use Rattle.behaviour_semantics.specs.Behaviour.{Behaviour, SynchronisationSet, Offer, give, ask, asked_variables, let_variables}
use Rattle.scope_parts.specs.Resolution.{Resolution, resolved, faulty, and_then, put_in_front}
use Rattle.scope_parts.specs.Scope.{Binding, bind, gates_at, first_double}
use Rattle.scope_parts.specs.Numbering.{spelled_names, asked_for, choice_names}
use Rattle.scope_parts.specs.Sorts.{sort_at, variable_at, sorted_variables, variables_at, placed_variables}
use Rattle.scope_parts.specs.Terms.{LetIs, BindingsAre, OffersAre, OffersFollow, let_names}
use Rattle.scope_parts.specs.Choices.{GateChoice, ParChoice, choices_follow, signs_follow, sign_at, with_signs, placed_choices, choices_at, par_choices_at, under_gates, under_par, under_values}
use Rattle.scope_parts.specs.Behaviours.{numbers_from}
use Rattle.scope_parts.proofs.FormedLists.{same_resolved, beside_of}
use Rattle.declaration_laws.specs.DeclarationOrder.{gates_bound, variables_bound, Follow, HasGateNumber, HasVariableNumber}

-- ---- Lists that follow one another

module _ (A B : Type 0) (Belong : ℕ → A → B → Type 0) where
  pub follow_more : (next behind : ℕ) (xs more : List A) (ys others : List B) → behind ≡ next + length xs → Follow A B Belong next xs ys
      → Follow A B Belong behind more others → Follow A B Belong next (xs ++ more) (ys ++ others)
  follow_more next behind [] more [] others same first second =
      subst (λ (n : ℕ). Follow A B Belong n more others) (same ∙ omega arith) second
  follow_more next behind [] more (y ∷ ys) others same first second = absurd first
  follow_more next behind (x ∷ xs) more [] others same first second = absurd first
  follow_more next behind (x ∷ xs) more (y ∷ ys) others same first second =
      (first.0, follow_more (suc next) behind xs more ys others (let s = same in omega (arith, s)) first.1 second)

  pub follow_at : (next : ℕ) (xs : List A) (ys : List B) (i : ℕ) (y : B) → Follow A B Belong next xs ys → slice_get ys i ≡ Some y
      → (x : A) × Belong (next + i) x y
  follow_at next [] [] i y is at = absurd (cc at)
  follow_at next [] (z ∷ ys) i y is at = absurd is
  follow_at next (x ∷ xs) [] i y is at = absurd is
  follow_at next (x ∷ xs) (z ∷ ys) zero y is at =
      (x, subst (λ (n : ℕ). Belong n x y) (omega arith) (subst (Belong next x) (same_Some z y at) is.0))
  follow_at next (x ∷ xs) (z ∷ ys) (suc i) y is at =
      let later = follow_at (suc next) xs ys i y is.1 at in
      (later.0, subst (λ (n : ℕ). Belong n later.0 y) (omega arith) later.1)

abbrev pub Gates : ℕ → List (List ℕ) → List ℕ → Type 0
Gates = Follow (List ℕ) ℕ HasGateNumber

abbrev pub Variables : ℕ → List WrittenVariable → List Variable → Type 0
Variables = Follow WrittenVariable Variable HasVariableNumber

pub more_gates : (next behind : ℕ) (xs more : List (List ℕ)) (ys others : List ℕ) → behind ≡ next + length xs → Gates next xs ys
    → Gates behind more others → Gates next (xs ++ more) (ys ++ others)
more_gates = follow_more (List ℕ) ℕ HasGateNumber

pub more_variables : (next behind : ℕ) (xs more : List WrittenVariable) (ys others : List Variable) → behind ≡ next + length xs
    → Variables next xs ys → Variables behind more others → Variables next (xs ++ more) (ys ++ others)
more_variables = follow_more WrittenVariable Variable HasVariableNumber

pub names_follow : (next : ℕ) (names : List (List ℕ)) → Gates next names (numbers_from next names)
names_follow next [] = tt
names_follow next (name ∷ names) =
    let one : suc next ≡ next + 1 = omega arith in
    (refl, subst (λ (n : ℕ). Gates (suc next) names (numbers_from n names)) one (names_follow (suc next) names))

pub spelled_follow : (next : ℕ) (names : List PlacedName) → Gates next (spelled_names names) (numbers_from next names)
spelled_follow next [] = tt
spelled_follow next (name ∷ names) =
    let one : suc next ≡ next + 1 = omega arith in
    (refl, subst (λ (n : ℕ). Gates (suc next) (spelled_names names) (numbers_from n names)) one (spelled_follow (suc next) names))

pub spelled_long : (names : List PlacedName) → length names ≡ length (spelled_names names)
spelled_long [] = refl
spelled_long (name ∷ names) = ap suc (spelled_long names)

-- ---- Variables

pub variable_made : (signature : Signature) (number : ℕ) (w : WrittenVariable) (x : Variable) → resolved x ≡ variable_at signature number w
    → HasVariableNumber number w x
variable_made signature number w x is = by (sort_found signature w) is
  where
    sort_found : Signature → WrittenVariable → Resolution ℕ
    sort_found signature w = sort_at signature w.sort_place w.sort

    by : (sort : Resolution ℕ)
        → resolved x ≡ and_then sort (λ sort. resolved (record { name = w.name; number = number; sort = sort }))
        → HasVariableNumber number w x
    by (resolved sort) is =
        let same = same_resolved x (record { name = w.name; number = number; sort = sort }) is in
        (ap (λ (v : Variable). v.number) same, ap (λ (v : Variable). v.name) same)
    by (faulty fault) is = absurd (cc is)

pub variables_made : (signature : Signature) (next : ℕ) (ws : List WrittenVariable) (xs : List Variable)
    → resolved xs ≡ sorted_variables signature next ws → Variables next ws xs
variables_made signature next [] xs is = subst (Variables next []) (sym (same_resolved xs [] is)) tt
variables_made signature next (w ∷ ws) xs is =
    by (variable_at signature next w) refl (sorted_variables signature (suc next) ws)
    (λ vs there. variables_made signature (suc next) ws vs there)
    is
  where
    by : (first : Resolution Variable) → variable_at signature next w ≡ first → (rest : Resolution (List Variable))
        → ((vs : List Variable) → resolved vs ≡ rest → Variables (suc next) ws vs)
        → resolved xs ≡ and_then first (λ x. put_in_front x rest) → Variables next (w ∷ ws) xs
    by (resolved x) first (resolved vs) later is =
        subst (Variables next (w ∷ ws)) (sym (same_resolved xs (x ∷ vs) is)) (variable_made signature next w x (sym first), later vs refl)
    by (resolved x) first (faulty fault) later is = absurd (cc is)
    by (faulty fault) first rest later is = absurd (cc is)

pub listed_variables : (signature : Signature) (next : ℕ) (ws : List WrittenVariable) (xs : List Variable)
    → resolved xs ≡ variables_at signature next ws → Variables next ws xs
listed_variables signature next ws xs is =
    variables_made signature next ws xs (beside_of (first_double (placed_variables ws)) (sorted_variables signature next ws) xs is)

pub bindings_made : (signature : Signature) (scope : List Variable) (next : ℕ) (ws : List (WrittenVariable × WrittenTerm))
    (xs : List (Variable × Term)) → BindingsAre signature scope next ws (resolved xs) → Variables next (let_names ws) (let_variables xs)
bindings_made signature scope next [] xs is =
    subst (λ (bs : List (Variable × Term)). Variables next [] (let_variables bs)) (sym (same_resolved xs [] is)) tt
bindings_made signature scope next (w ∷ ws) [] is = absurd is.2
bindings_made signature scope next (w ∷ ws) (x ∷ xs) is =
    let made = is.1 in
    let whole : x ≡ is.0 = is.2.0 in
    let named : x.0 ≡ made.0 = ap (λ (b : Variable × Term). b.0) (whole ∙ made.2.2) in (
      subst (HasVariableNumber next w.0) (sym named) (variable_made signature next w.0 made.0 made.1),
      bindings_made signature scope (suc next) ws xs is.2.1,
    )

pub let_made : (signature : Signature) (scope : List Variable) (next : ℕ) (ws : List (WrittenVariable × WrittenTerm))
    (xs : List (Variable × Term)) → LetIs signature scope next ws (resolved xs) → Variables next (let_names ws) (let_variables xs)
let_made signature scope next ws xs is =
    by is.0 is.1 (beside_of (first_double (placed_variables (let_names ws))) is.0 xs is.2)
  where
    by : (others : Resolution (List (Variable × Term))) → BindingsAre signature scope next ws others → resolved xs ≡ others
        → Variables next (let_names ws) (let_variables xs)
    by others are same = bindings_made signature scope next ws xs (subst (BindingsAre signature scope next ws) (sym same) are)

pub let_long : (ws : List (WrittenVariable × WrittenTerm)) → length ws ≡ length (let_names ws)
let_long [] = refl
let_long (w ∷ ws) = ap suc (let_long ws)

pub offers_made : (signature : Signature) (scope : List Variable) (next : ℕ) (ws : List WrittenOffer) (xs : List Offer)
    → OffersFollow signature scope next ws (resolved xs) → Variables next (asked_for ws) (asked_variables xs)
offers_made signature scope next [] xs is =
    subst (λ (os : List Offer). Variables next [] (asked_variables os)) (sym (same_resolved xs [] is)) tt
offers_made signature scope next (offer_value term ∷ ws) [] is = absurd is.2
offers_made signature scope next (offer_variable w ∷ ws) [] is = absurd is.2
offers_made signature scope next (offer_value term ∷ ws) (x ∷ xs) is =
    let same : x ≡ give is.1.0 = is.2.0 ∙ is.1.2 in
    subst (λ (o : Offer). Variables next (asked_for ws) (asked_variables (o ∷ xs))) (sym same)
    (offers_made signature scope next ws xs is.2.1)
offers_made signature scope next (offer_variable w ∷ ws) (x ∷ xs) is =
    let same : x ≡ ask is.1.0 = is.2.0 ∙ is.1.2 in
    subst (λ (o : Offer). Variables next (w ∷ asked_for ws) (asked_variables (o ∷ xs))) (sym same)
    (variable_made signature next w is.1.0 is.1.1, offers_made signature scope (suc next) ws xs is.2.1)

pub listed_offers : (signature : Signature) (scope : List Variable) (next : ℕ) (ws : List WrittenOffer) (xs : List Offer)
    → OffersAre signature scope next ws (resolved xs) → Variables next (asked_for ws) (asked_variables xs)
listed_offers signature scope next ws xs is =
    by is.0 is.1 (beside_of (first_double (placed_variables (asked_for ws))) is.0 xs is.2)
  where
    by : (others : Resolution (List Offer)) → OffersFollow signature scope next ws others → resolved xs ≡ others
        → Variables next (asked_for ws) (asked_variables xs)
    by others are same = offers_made signature scope next ws xs (subst (OffersFollow signature scope next ws) (sym same) are)

-- ---- Choices of gates

abbrev pub chosen : List GateChoice → List ℕ
chosen choices = map (λ (c : GateChoice). c.gate) choices

pub choices_made : (declared : List WrittenGateChoice) (bindings : List Binding) (next : ℕ) (choices : List GateChoice)
    → resolved choices ≡ choices_follow bindings next declared → Gates next (choice_names declared) (chosen choices)
choices_made [] bindings next choices is =
    subst (λ (cs : List GateChoice). Gates next [] (chosen cs)) (sym (same_resolved choices [] is)) tt
choices_made (one ∷ declared) bindings next choices is =
    by (gates_at bindings one.among) (choices_follow (bind one.name next bindings) (suc next) declared)
    (λ cs there. choices_made declared (bind one.name next bindings) (suc next) cs there) is
  where
    by : (first : Resolution (List ℕ)) (rest : Resolution (List GateChoice))
        → ((cs : List GateChoice) → resolved cs ≡ rest → Gates (suc next) (choice_names declared) (chosen cs))
        → resolved choices ≡ and_then first (λ among. put_in_front (record { gate = next; among = among }) rest)
        → Gates next (choice_names (one ∷ declared)) (chosen choices)
    by (resolved among) (resolved cs) later is =
        subst (λ (all : List GateChoice). Gates next (choice_names (one ∷ declared)) (chosen all))
        (sym (same_resolved choices (record { gate = next; among = among } ∷ cs) is)) (refl, later cs refl)
    by (resolved among) (faulty fault) later is = absurd (cc is)
    by (faulty fault) rest later is = absurd (cc is)

-- as many signs as choices
pub follow_long : (declared : List WrittenGateChoice) (bindings : List Binding) (next : ℕ) (choices : List GateChoice)
    → resolved choices ≡ choices_follow bindings next declared → length choices ≡ length declared
follow_long [] bindings next choices is = ap (λ (cs : List GateChoice). length cs) (same_resolved choices [] is)
follow_long (one ∷ declared) bindings next choices is =
    by (gates_at bindings one.among) (choices_follow (bind one.name next bindings) (suc next) declared)
    (λ cs there. follow_long declared (bind one.name next bindings) (suc next) cs there) is
  where
    by : (first : Resolution (List ℕ)) (rest : Resolution (List GateChoice))
        → ((cs : List GateChoice) → resolved cs ≡ rest → length cs ≡ length declared)
        → resolved choices ≡ and_then first (λ among. put_in_front (record { gate = next; among = among }) rest)
        → length choices ≡ suc (length declared)
    by (resolved among) (resolved cs) later is =
        ap (λ (all : List GateChoice). length all) (same_resolved choices (record { gate = next; among = among } ∷ cs) is)
        ∙ ap suc (later cs refl)
    by (resolved among) (faulty fault) later is = absurd (cc is)
    by (faulty fault) rest later is = absurd (cc is)

pub signs_long : (sign : WrittenSign) (declared : List WrittenGateChoice) (bindings : List Binding) (next : ℕ)
    (meets : List SynchronisationSet) → resolved meets ≡ signs_follow bindings next sign declared → length meets ≡ length declared
signs_long sign [] bindings next meets is = ap (λ (ms : List SynchronisationSet). length ms) (same_resolved meets [] is)
signs_long sign (one ∷ declared) bindings next meets is =
    by (sign_at bindings sign) (signs_follow (bind one.name next bindings) (suc next) sign declared)
    (λ ms there. signs_long sign declared (bind one.name next bindings) (suc next) ms there) is
  where
    by : (first : Resolution SynchronisationSet) (rest : Resolution (List SynchronisationSet))
        → ((ms : List SynchronisationSet) → resolved ms ≡ rest → length ms ≡ length declared)
        → resolved meets ≡ and_then first (λ meet. put_in_front meet rest) → length meets ≡ suc (length declared)
    by (resolved meet) (resolved ms) later is =
        ap (λ (all : List SynchronisationSet). length all) (same_resolved meets (meet ∷ ms) is) ∙ ap suc (later ms refl)
    by (resolved meet) (faulty fault) later is = absurd (cc is)
    by (faulty fault) rest later is = absurd (cc is)

abbrev pub signed_gates : List ParChoice → List ℕ
signed_gates pars = map (λ (p : ParChoice). p.choice_.gate) pars

pub signed_are : (choices : List GateChoice) (meets : List SynchronisationSet) → length choices ≡ length meets
    → signed_gates (with_signs choices meets) ≡ chosen choices
signed_are [] meets same = refl
signed_are (choice_ ∷ choices) [] same = absurd (omega (arith, same))
signed_are (choice_ ∷ choices) (meet ∷ meets) same =
    ap (λ (gs : List ℕ). choice_.gate ∷ gs) (signed_are choices meets (let s = same in omega (arith, s)))

pub pars_made : (bindings : List Binding) (next : ℕ) (sign : WrittenSign) (declared : List WrittenGateChoice) (pars : List ParChoice)
    → resolved pars ≡ par_choices_at bindings next sign declared → Gates next (choice_names declared) (signed_gates pars)
pars_made bindings next sign declared pars is =
    by (choices_at bindings next declared) refl (signs_follow bindings next sign declared) refl is
  where
    by : (first : Resolution (List GateChoice)) → choices_at bindings next declared ≡ first
        → (signs : Resolution (List SynchronisationSet)) → signs_follow bindings next sign declared ≡ signs
        → resolved pars ≡ and_then first (λ choices. and_then signs (λ meets. resolved (with_signs choices meets)))
        → Gates next (choice_names declared) (signed_gates pars)
    by (resolved choices) first (resolved meets) signs is =
        let follow =
        beside_of (first_double (placed_choices declared)) (choices_follow bindings next declared) choices (sym first) in
        let long : length choices ≡ length meets =
        follow_long declared bindings next choices follow ∙ sym (signs_long sign declared bindings next meets (sym signs)) in
        subst (Gates next (choice_names declared))
        (sym (ap signed_gates (same_resolved pars (with_signs choices meets) is) ∙ signed_are choices meets long))
        (choices_made declared bindings next choices follow)
    by (resolved choices) first (faulty fault) signs is = absurd (cc is)
    by (faulty fault) first signs is_signs is = absurd (cc is)

pub names_long : (declared : List WrittenGateChoice) → length declared ≡ length (choice_names declared)
names_long [] = refl
names_long (one ∷ declared) = ap suc (names_long declared)

-- what stands under choices
pub gates_under : (choices : List GateChoice) (b : Behaviour) → gates_bound (under_gates choices b) ≡ chosen choices ++ gates_bound b
gates_under [] b = refl
gates_under (c ∷ choices) b = ap (λ (gs : List ℕ). c.gate ∷ gs) (gates_under choices b)

pub variables_under : (choices : List GateChoice) (b : Behaviour) → variables_bound (under_gates choices b) ≡ variables_bound b
variables_under [] b = refl
variables_under (c ∷ choices) b = variables_under choices b

pub gates_under_par : (pars : List ParChoice) (b : Behaviour) → gates_bound (under_par pars b) ≡ signed_gates pars ++ gates_bound b
gates_under_par [] b = refl
gates_under_par (p ∷ pars) b = ap (λ (gs : List ℕ). p.choice_.gate ∷ gs) (gates_under_par pars b)

pub variables_under_par : (pars : List ParChoice) (b : Behaviour) → variables_bound (under_par pars b) ≡ variables_bound b
variables_under_par [] b = refl
variables_under_par (p ∷ pars) b = variables_under_par pars b

pub gates_under_values : (xs : List Variable) (b : Behaviour) → gates_bound (under_values xs b) ≡ gates_bound b
gates_under_values [] b = refl
gates_under_values (x ∷ xs) b = gates_under_values xs b

pub variables_under_values : (xs : List Variable) (b : Behaviour) → variables_bound (under_values xs b) ≡ xs ++ variables_bound b
variables_under_values [] b = refl
variables_under_values (x ∷ xs) b = ap (λ (vs : List Variable). x ∷ vs) (variables_under_values xs b)
