-- The places of names, terms and premisses in texts.
use Rattle.std.proofs.Common.{◌≡◌, ℕ, List, [], ◌∷◌, ◌++◌, inl, inr}
use Rattle.std.specs.Prelude.{◌⊎◌}
use Rattle.lotos_base.specs.Equation.{Place}
use Rattle.lotos_base.specs.WrittenTerm.{PlacedName, WrittenTerm, written, written_terms}
use Rattle.lotos_lexer.specs.declared.tokens.Token.{Token}
use Rattle.syntax_trees.specs.WrittenEquation.{WrittenPremiss}
use Rattle.syntax_trees.specs.LeftGrouping.{IsGroupedLeft, only, at_last}
use Rattle.lotos_rows.specs.Words.{last, before_more, left_out, there, between}
use Rattle.lotos_rows.specs.Names.{place_of, named, a_name, AreNames, AreOptionalNames, AreWrittenGates, AreOptionalGates, IsOperationName, word_name, digit_name, sign_name}
use Rattle.lotos_rows.specs.Terms.{of_sort, infix_term, applied, IsTerm, grouped_factors, AreFactors, one_factor, more_factors, IsFactor, without_sort, with_sort, IsBase, without_arguments, with_arguments, bracketed, AreTerms, one_term, more_terms, AreArguments, no_arguments, some_arguments}
use Rattle.lotos_rows.specs.Equations.{IsPremiss, true_term, equal_terms}
use Rattle.behaviour_semantics.specs.WellFormed.{Every}
use Rattle.behaviour_semantics.proofs.EveryLemmas.{every_front, every_back, every_map}
use Rattle.scope_parts.specs.Order.{IsOneOfPlaces, Rising, InTurn}
use Rattle.scope_parts.specs.TermPlaces.{name_places, term_places, terms_places, premiss_places}
use Rattle.scope_parts.specs.PartPlaces.{value_places}
use Rattle.declaration_laws.proofs.TokenOrder.{At, Rises, Within, AllWithin, rises_front, rises_back, nothing_within, here_within, in_left, in_right, in_rest, both_within, more_within, before_parts, before_all, all_in_left, all_in_right, all_in_rest}

-- ---- names

pub names_in : {text : List ℕ} {tokens : List Token} {names : List PlacedName} → AreNames text tokens names
    → Within (name_places names) tokens
names_in (last (a_name {name = name} is)) = here_within name []
names_in {text = text} (before_more {rest = rest} {token = comma} {values = names} (a_name {name = name} is) comma_is more) =
    more_within _ (name_places names) (name ∷ comma ∷ rest) (here_within name (comma ∷ rest))
    (in_rest (name_places names) name (comma ∷ rest) (in_rest (name_places names) comma rest (names_in more)))

pub names_rise : {text : List ℕ} {tokens : List Token} {names : List PlacedName} → AreNames text tokens names → Rises tokens
    → Rising (name_places names)
names_rise (last (a_name {name = name} is)) h = ((λ p q here later. absurd later), tt)
names_rise (before_more {rest = rest} {token = comma} {values = names} (a_name {name = name} is) comma_is more) h = (
  before_parts (place_of name ∷ []) (name_places names) (name ∷ []) (comma ∷ rest) h (here_within name [])
      (in_rest (name_places names) comma rest (names_in more)),
  names_rise more h.1.1,
)

pub optional_names_in : {text : List ℕ} {tokens : List Token} {names : List PlacedName} → AreOptionalNames text tokens names
    → Within (name_places names) tokens
optional_names_in left_out = nothing_within []
optional_names_in (there are) = names_in are

pub optional_names_rise : {text : List ℕ} {tokens : List Token} {names : List PlacedName} → AreOptionalNames text tokens names
    → Rises tokens → Rising (name_places names)
optional_names_rise left_out h = tt
optional_names_rise (there are) h = names_rise are h

pub gates_in : {text : List ℕ} {tokens : List Token} {gates : List PlacedName} → AreWrittenGates text tokens gates
    → Within (name_places gates) tokens
gates_in (between {open_token = left} {close_token = right} {tokens = tokens} {value = gates} left_is are right_is) =
    in_rest (name_places gates) left (tokens ++ right ∷ []) (in_left (name_places gates) tokens (right ∷ []) (names_in are))

pub gates_rise : {text : List ℕ} {tokens : List Token} {gates : List PlacedName} → AreWrittenGates text tokens gates → Rises tokens
    → Rising (name_places gates)
gates_rise (between {close_token = right} {tokens = tokens} left_is are right_is) h = names_rise are (rises_front tokens (right ∷ []) h.1)

pub optional_gates_in : {text : List ℕ} {tokens : List Token} {gates : List PlacedName} → AreOptionalGates text tokens gates
    → Within (name_places gates) tokens
optional_gates_in left_out = nothing_within []
optional_gates_in (there are) = gates_in are

pub optional_gates_rise : {text : List ℕ} {tokens : List Token} {gates : List PlacedName} → AreOptionalGates text tokens gates
    → Rises tokens → Rising (name_places gates)
optional_gates_rise left_out h = tt
optional_gates_rise (there are) h = gates_rise are h

-- ---- terms

abbrev TermIn : List Token → WrittenTerm → Type 0
TermIn ts w = Within (term_places w) ts

abbrev NameIn : List Token → PlacedName → Type 0
NameIn ts name = Within (name.place ∷ []) ts

operation_name_in : {text : List ℕ} {tokens : List Token} {name : PlacedName} → IsOperationName text tokens name → NameIn tokens name
operation_name_in (word_name {name = name} is) = here_within name []
operation_name_in (digit_name {name = name} is) = here_within name []
operation_name_in (sign_name {name = name} is) = here_within name []

arguments_in : (terms : List WrittenTerm) (ts : List Token) → Every (TermIn ts) terms → Within (terms_places (written_terms terms)) ts
arguments_in [] ts all = nothing_within ts
arguments_in (w ∷ terms) ts all =
    both_within (term_places w) (terms_places (written_terms terms)) ts all.0 (arguments_in terms ts all.1)

applied_in : (name : PlacedName) (terms : List WrittenTerm) (ts : List Token) → NameIn ts name → Every (TermIn ts) terms
    → TermIn ts (applied name terms)
applied_in name terms ts one all =
    more_within name.place (terms_places (written_terms terms) ++ []) ts one
    (both_within (terms_places (written_terms terms)) [] ts (arguments_in terms ts all) (nothing_within ts))

infix_in : (name : PlacedName) (left right : WrittenTerm) (ts : List Token) → NameIn ts name → TermIn ts left → TermIn ts right
    → TermIn ts (infix_term name left right)
infix_in name left right ts one first second =
    more_within name.place (terms_places (written_terms (left ∷ right ∷ [])) ++ []) ts one
    (both_within (terms_places (written_terms (left ∷ right ∷ []))) [] ts (arguments_in (left ∷ right ∷ []) ts (first, (second, tt)))
    (nothing_within ts))

name_split : (p : Place) (names : List PlacedName) (name : PlacedName) → IsOneOfPlaces p (name_places (names ++ name ∷ []))
    → IsOneOfPlaces p (name_places names) ⊎ IsOneOfPlaces p (name.place ∷ [])
name_split p [] name at = inr at
name_split p (n ∷ names) name (inl same) = inl (inl same)
name_split p (n ∷ names) name (inr at) = go (name_split p names name at)
  where
    go : IsOneOfPlaces p (name_places names) ⊎ IsOneOfPlaces p (name.place ∷ [])
        → ((p ≡ n.place) ⊎ IsOneOfPlaces p (name_places names)) ⊎ IsOneOfPlaces p
        (name.place ∷ [])
    go (inl here) = inl (inr here)
    go (inr here) = inr here

sorts_within : (before : List Place) (names : List PlacedName) (name : PlacedName) (ts : List Token)
    → Within (before ++ name_places names) ts → NameIn ts name → Within (before ++ name_places (names ++ name ∷ [])) ts
sorts_within [] names name ts h one = λ p at. go p (name_split p names name at)
  where
    go : (p : Place) → IsOneOfPlaces p (name_places names) ⊎ IsOneOfPlaces p (name.place ∷ []) → At p ts
    go p (inl here) = h p here
    go p (inr here) = one p here
sorts_within (q ∷ before) names name ts h one =
    more_within q (before ++ name_places (names ++ name ∷ [])) ts
    (λ p at. h p (first p at))
    (sorts_within before names name ts (λ p at. h p (inr at)) one)
  where
    first : (p : Place) → IsOneOfPlaces p (q ∷ []) → IsOneOfPlaces p (q ∷ (before ++ name_places names))
    first p (inl same) = inl same
    first p (inr at) = absurd at

of_sort_in : (sort : PlacedName) (term : WrittenTerm) (ts : List Token) → TermIn ts term → NameIn ts sort → TermIn ts (of_sort sort term)
of_sort_in sort (written head arguments) ts h one =
    more_within head.place (terms_places arguments ++ name_places (head.sorts ++ sort ∷ [])) ts
    (λ p at. h p (first p at))
    (sorts_within (terms_places arguments) head.sorts sort ts (λ p at. h p (inr at)) one)
  where
    first : (p : Place) → IsOneOfPlaces p (head.place ∷ [])
        → IsOneOfPlaces p (head.place ∷ (terms_places arguments ++ name_places head.sorts))
    first p (inl same) = inl same
    first p (inr at) = absurd at

grouped_in : {factors : List WrittenTerm} {operations : List PlacedName} {term : WrittenTerm} (ts : List Token)
    → IsGroupedLeft infix_term factors operations term → Every (TermIn ts) factors → Every (NameIn ts) operations → TermIn ts term
grouped_in ts only all names = all.0
grouped_in ts (at_last {operands = operands} {signs = signs} {left = left} {last = right} {sign = sign} grouped) all names =
    infix_in sign left right ts (every_back (NameIn ts) signs (sign ∷ []) names).0
    (grouped_in ts grouped (every_front (TermIn ts) operands (right ∷ []) all) (every_front (NameIn ts) signs (sign ∷ []) names))
    (every_back (TermIn ts) operands (right ∷ []) all).0

mutual
  pub term_in : {text : List ℕ} {tokens : List Token} {term : WrittenTerm} → IsTerm text tokens term → Within (term_places term) tokens
  term_in {tokens = tokens} (grouped_factors are grouped) = grouped_in tokens grouped (factors_in are) (operations_in are)

  factors_in : {text : List ℕ} {tokens : List Token} {factors : List WrittenTerm} {operations : List PlacedName}
      → AreFactors text tokens factors operations → Every (TermIn tokens) factors
  factors_in (one_factor is) = (factor_in is, tt)
  factors_in (more_factors {tokens = xs} {name_tokens = ns} {rest = rest} {factor = factor} {factors = factors} is name more) = (
    in_left (term_places factor) (xs ++ ns) rest (in_left (term_places factor) xs ns (factor_in is)),
    every_map (TermIn rest) (TermIn ((xs ++ ns) ++ rest)) (λ w h. in_right (term_places w) (xs ++ ns) rest h) factors (factors_in more),
  )

  operations_in : {text : List ℕ} {tokens : List Token} {factors : List WrittenTerm} {operations : List PlacedName}
      → AreFactors text tokens factors operations → Every (NameIn tokens) operations
  operations_in (one_factor is) = tt
  operations_in (more_factors {tokens = xs} {name_tokens = ns} {rest = rest} {name = name} {operations = operations} is name_is more) = (
    in_left (name.place ∷ []) (xs ++ ns) rest (in_right (name.place ∷ []) xs ns (operation_name_in name_is)),
    every_map (NameIn rest) (NameIn ((xs ++ ns) ++ rest)) (λ n h. in_right (n.place ∷ []) (xs ++ ns) rest h) operations
        (operations_in more),
  )

  factor_in : {text : List ℕ} {tokens : List Token} {term : WrittenTerm} → IsFactor text tokens term → TermIn tokens term
  factor_in (without_sort is) = base_in is
  factor_in {text = text} (with_sort {tokens = xs} {of = of} {sort = sort} {term = term} is of_is sort_is) =
      of_sort_in (named text sort) term (xs ++ of ∷ sort ∷ []) (in_left (term_places term) xs (of ∷ sort ∷ []) (base_in is))
      (in_right (place_of sort ∷ []) xs (of ∷ sort ∷ []) (in_rest (place_of sort ∷ []) of (sort ∷ []) (here_within sort [])))

  base_in : {text : List ℕ} {tokens : List Token} {term : WrittenTerm} → IsBase text tokens term → TermIn tokens term
  base_in (without_arguments {tokens = tokens} {name = name} is) = applied_in name [] tokens (operation_name_in is) tt
  base_in (with_arguments {tokens = xs} {argument_tokens = ys} {left = left} {right = right} {name = name} {arguments = arguments} is
      left_is are right_is) =
      applied_in name arguments (xs ++ left ∷ (ys ++ right ∷ []))
      (in_left (name.place ∷ []) xs (left ∷ (ys ++ right ∷ [])) (operation_name_in is))
      (every_map (TermIn ys) (TermIn (xs ++ left ∷ (ys ++ right ∷ [])))
      (λ w h. in_right (term_places w) xs (left ∷ (ys ++ right ∷ []))
      (in_rest (term_places w) left (ys ++ right ∷ []) (in_left (term_places w) ys (right ∷ []) h))) arguments (each_term_in are))
  base_in (bracketed {tokens = xs} {left = left} {right = right} {term = term} left_is is right_is) =
      in_rest (term_places term) left (xs ++ right ∷ []) (in_left (term_places term) xs (right ∷ []) (term_in is))

  each_term_in : {text : List ℕ} {tokens : List Token} {terms : List WrittenTerm} → AreTerms text tokens terms
      → Every (TermIn tokens) terms
  each_term_in (one_term is) = (term_in is, tt)
  each_term_in (more_terms {tokens = xs} {rest = rest} {comma = comma} {term = term} {terms = terms} is comma_is more) = (
    in_left (term_places term) xs (comma ∷ rest) (term_in is),
    every_map (TermIn rest) (TermIn (xs ++ comma ∷ rest))
        (λ w h. in_right (term_places w) xs (comma ∷ rest) (in_rest (term_places w) comma rest h)) terms (each_term_in more),
  )

-- ---- lists of terms

pub terms_in : {text : List ℕ} {tokens : List Token} {terms : List WrittenTerm} → AreTerms text tokens terms
    → AllWithin (value_places terms) tokens
terms_in (one_term is) = (term_in is, tt)
terms_in (more_terms {tokens = xs} {rest = rest} {comma = comma} {term = term} {terms = terms} is comma_is more) = (
  in_left (term_places term) xs (comma ∷ rest) (term_in is),
  all_in_right (value_places terms) xs (comma ∷ rest) (all_in_rest (value_places terms) comma rest (terms_in more)),
)

pub terms_turn : {text : List ℕ} {tokens : List Token} {terms : List WrittenTerm} → AreTerms text tokens terms → Rises tokens
    → InTurn (value_places terms)
terms_turn (one_term is) h = (tt, tt)
terms_turn (more_terms {tokens = xs} {rest = rest} {comma = comma} {term = term} {terms = terms} is comma_is more) h = (
  before_all (term_places term) (value_places terms) xs (comma ∷ rest) h (term_in is)
      (all_in_rest (value_places terms) comma rest (terms_in more)),
  terms_turn more (rises_back xs (comma ∷ rest) h).1,
)

pub values_in : {text : List ℕ} {tokens : List Token} {terms : List WrittenTerm} → AreArguments text tokens terms
    → AllWithin (value_places terms) tokens
values_in no_arguments = tt
values_in (some_arguments {tokens = xs} {left = left} {right = right} {terms = terms} left_is are right_is) =
    all_in_rest (value_places terms) left (xs ++ right ∷ []) (all_in_left (value_places terms) xs (right ∷ []) (terms_in are))

pub values_turn : {text : List ℕ} {tokens : List Token} {terms : List WrittenTerm} → AreArguments text tokens terms → Rises tokens
    → InTurn (value_places terms)
values_turn no_arguments h = tt
values_turn (some_arguments {tokens = xs} {right = right} left_is are right_is) h = terms_turn are (rises_front xs (right ∷ []) h.1)

-- ---- premisses

pub premiss_in : {text : List ℕ} {tokens : List Token} {premiss : WrittenPremiss} → IsPremiss text tokens premiss
    → Within (premiss_places premiss) tokens
premiss_in (true_term {first = first} {rest = rest} {term = term} is) =
    more_within _ (term_places term ++ []) (first ∷ rest) (here_within first rest)
    (both_within (term_places term) [] (first ∷ rest) (term_in is) (nothing_within (first ∷ rest)))
premiss_in (equal_terms {first = first} {equals = equals} {rest = rest} {tokens = tokens} {left = left}
    {right = right} is equals_is other) =
    more_within _ (term_places left ++ term_places right) (first ∷ (rest ++ equals ∷ tokens))
    (here_within first (rest ++ equals ∷ tokens))
    (both_within (term_places left) (term_places right) (first ∷ (rest ++ equals ∷ tokens))
    (in_left (term_places left) (first ∷ rest) (equals ∷ tokens) (term_in is))
    (in_right (term_places right) (first ∷ rest) (equals ∷ tokens) (in_rest (term_places right) equals tokens (term_in other))))
