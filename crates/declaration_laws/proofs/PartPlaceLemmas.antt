-- The places of declarations, values, offers and signs in texts.
use Rattle.std.proofs.Common.{◌≡◌, ℕ, List, [], ◌∷◌, ◌++◌, map, flat_map, refl, ap, sym, subst, inl, inr}
use Rattle.std.specs.Prelude.{◌⊎◌}
use Rattle.lotos_base.specs.Equation.{Place}
use Rattle.lotos_base.specs.WrittenTerm.{PlacedName, WrittenTerm}
use Rattle.lotos_lexer.specs.declared.kinds.TheConstants.{COMMA, LEFT_PARENTHESIS, RIGHT_PARENTHESIS, ACCEPT, IN}
use Rattle.lotos_lexer.specs.declared.tokens.Token.{Token}
use Rattle.syntax_trees.specs.WrittenVariable.{WrittenVariable}
use Rattle.syntax_trees.specs.WrittenBehaviour.{WrittenGateChoice, WrittenExitValue, WrittenOffer, offer_value, offer_variable}
use Rattle.syntax_trees.specs.Strength.{PlacedSign}
use Rattle.lotos_rows.specs.Words.{Separated, last, before_more, Many, no_more, and_then, Optional, left_out, there, Between, between}
use Rattle.lotos_rows.specs.Names.{place_of, named, variables_of_sort, AreVariablesOfSort, of_sort, AreVariables, variables, AreParameters}
use Rattle.lotos_rows.specs.Behaviours.{IsLetDeclaration, let_declaration, gate_choices_among, AreGateChoicesAmong, among, AreGateChoices, gate_choices, IsWrittenOffer, giving, asking, IsWrittenExitValue, any_value, value_given, IsParallelSign, sign_interleaving, sign_full, sign_gates, IsSign, sign_choice, sign_parallel, sign_disabling, sign_enabling}
use Rattle.behaviour_semantics.specs.WellFormed.{Every}
use Rattle.scope_parts.specs.Numbering.{asked_for}
use Rattle.scope_parts.specs.Sorts.{placed_variables}
use Rattle.scope_parts.specs.Terms.{let_names}
use Rattle.scope_parts.specs.Choices.{placed_choices}
use Rattle.scope_parts.specs.Order.{IsOneOfPlaces, StandWhollyBefore, Rising, InTurn, joined_places}
use Rattle.scope_parts.specs.TermPlaces.{name_places, term_places}
use Rattle.scope_parts.specs.PartPlaces.{sort_places, variable_places, SortsFollow, VariablesFollow, exit_value_places, exit_places, binding_places, bindings_places, let_places, LetFollows, offer_places, offered_places, offers_places, OfferFollows, OffersInTurn, OffersFollowOn, choice_places, AmongFollow, ChoicesFollow, sign_places, SignFollows}
use Rattle.scope_parts.proofs.FormedDefinitions.{every_both}
use Rattle.declaration_laws.proofs.TokenOrder.{Rises, Within, AllWithin, rises_front, rises_back, nothing_within, here_within, in_left, in_right, in_rest, both_within, more_within, joined_within, before_parts, before_all, nothing_after, rising_both, all_in_left, all_in_right, all_in_rest}
use Rattle.declaration_laws.proofs.TermPlaceLemmas.{names_in, names_rise, optional_names_in, optional_names_rise, gates_in, gates_rise, term_in}

-- ---- variables

abbrev variable_names : List WrittenVariable → List Place
variable_names vs = name_places (placed_variables vs)

-- The variables stand among the tokens, with their sorts.
record AreIn (vs : List WrittenVariable) (ts : List Token) : Type 0 where
  names : Within (variable_names vs) ts
  sorts : Within (sort_places vs) ts

names_of_group : (names : List PlacedName) (sort : PlacedName) → variable_names (variables_of_sort names sort) ≡ name_places names
names_of_group [] sort = refl
names_of_group (name ∷ names) sort = ap (λ ps. name.place ∷ ps) (names_of_group names sort)

sorts_of_group : (names : List PlacedName) (sort : PlacedName) (ts : List Token) → Within (sort.place ∷ []) ts
    → Within (sort_places (variables_of_sort names sort)) ts
sorts_of_group [] sort ts one = nothing_within ts
sorts_of_group (name ∷ names) sort ts one =
    more_within sort.place (sort_places (variables_of_sort names sort)) ts one (sorts_of_group names sort ts one)

same_sorts : (names : List PlacedName) (sort : PlacedName)
    → Every (λ (y : WrittenVariable). (sort.place ≡ y.sort_place) ⊎ StandWhollyBefore (sort.place ∷ []) (y.sort_place ∷ []))
    (variables_of_sort names sort)
same_sorts [] sort = tt
same_sorts (name ∷ names) sort = (inl refl, same_sorts names sort)

group_sorts_follow : (names : List PlacedName) (sort : PlacedName) → SortsFollow (variables_of_sort names sort)
group_sorts_follow [] sort = tt
group_sorts_follow (name ∷ names) sort = (same_sorts names sort, group_sorts_follow names sort)

names_of_both : (xs ys : List WrittenVariable) → variable_names (xs ++ ys) ≡ variable_names xs ++ variable_names ys
names_of_both [] ys = refl
names_of_both (x ∷ xs) ys = ap (λ ps. x.place ∷ ps) (names_of_both xs ys)

sorts_of_both : (xs ys : List WrittenVariable) → sort_places (xs ++ ys) ≡ sort_places xs ++ sort_places ys
sorts_of_both [] ys = refl
sorts_of_both (x ∷ xs) ys = ap (λ ps. x.sort_place ∷ ps) (sorts_of_both xs ys)

none_in : (ts : List Token) → AreIn [] ts
none_in ts = record { names = nothing_within ts; sorts = nothing_within ts }

both_in : (xs ys : List WrittenVariable) (ts : List Token) → AreIn xs ts → AreIn ys ts → AreIn (xs ++ ys) ts
both_in xs ys ts one other = record {
  names = subst (λ ps. Within ps ts) (sym (names_of_both xs ys))
      (both_within (variable_names xs) (variable_names ys) ts one.names other.names);
  sorts = subst (λ ps. Within ps ts) (sym (sorts_of_both xs ys)) (both_within (sort_places xs) (sort_places ys) ts one.sorts other.sorts);
}

in_left_too : (xs : List WrittenVariable) (ts us : List Token) → AreIn xs ts → AreIn xs (ts ++ us)
in_left_too xs ts us h = record {
  names = in_left (variable_names xs) ts us h.names;
  sorts = in_left (sort_places xs) ts us h.sorts;
}

in_right_too : (xs : List WrittenVariable) (ts us : List Token) → AreIn xs us → AreIn xs (ts ++ us)
in_right_too xs ts us h = record {
  names = in_right (variable_names xs) ts us h.names;
  sorts = in_right (sort_places xs) ts us h.sorts;
}

in_rest_too : (xs : List WrittenVariable) (t : Token) (ts : List Token) → AreIn xs ts → AreIn xs (t ∷ ts)
in_rest_too xs t ts h = record {
  names = in_rest (variable_names xs) t ts h.names;
  sorts = in_rest (sort_places xs) t ts h.sorts;
}

sorts_behind : (p : Place) (ys : List WrittenVariable) → StandWhollyBefore (p ∷ []) (sort_places ys)
    → Every (λ (y : WrittenVariable). (p ≡ y.sort_place) ⊎ StandWhollyBefore (p ∷ []) (y.sort_place ∷ [])) ys
sorts_behind p [] h = tt
sorts_behind p (y ∷ ys) h = (inr (λ x q here at. h x q here (first q at)), sorts_behind p ys (λ x q here at. h x q here (inr at)))
  where
    first : (q : Place) → IsOneOfPlaces q (y.sort_place ∷ []) → IsOneOfPlaces q (y.sort_place ∷ sort_places ys)
    first q (inl same) = inl same
    first q (inr at) = absurd at

front_before : (p : Place) (ps qs : List Place) → StandWhollyBefore (p ∷ ps) qs → StandWhollyBefore (p ∷ []) qs
front_before p ps qs h x q (inl same) at = h x q (inl same) at
front_before p ps qs h x q (inr here) at = absurd here

sorts_follow_both : (xs ys : List WrittenVariable) → SortsFollow xs → SortsFollow ys → StandWhollyBefore (sort_places xs) (sort_places ys)
    → SortsFollow (xs ++ ys)
sorts_follow_both [] ys one other h = other
sorts_follow_both (x ∷ xs) ys one other h = (
  every_both (λ (y : WrittenVariable). (x.sort_place ≡ y.sort_place) ⊎ StandWhollyBefore (x.sort_place ∷ []) (y.sort_place ∷ [])) xs ys
      one.0
      (sorts_behind x.sort_place ys (front_before x.sort_place (sort_places xs) (sort_places ys) h)),
  sorts_follow_both xs ys one.1 other (λ p q here at. h p q (inr here) at),
)

follow_both : (xs ys : List WrittenVariable) (ts us : List Token) → Rises (ts ++ us) → AreIn xs ts → AreIn ys us → VariablesFollow xs
    → VariablesFollow ys → VariablesFollow (xs ++ ys)
follow_both xs ys ts us h one other first second = (
  subst (λ ps. Rising ps) (sym (names_of_both xs ys))
      (rising_both (variable_names xs) (variable_names ys) first.0 second.0
      (before_parts (variable_names xs) (variable_names ys) ts us h one.names other.names)),
  sorts_follow_both xs ys first.1 second.1 (before_parts (sort_places xs) (sort_places ys) ts us h one.sorts other.sorts),
)

group_in : {text : List ℕ} {tokens : List Token} {vs : List WrittenVariable} → AreVariablesOfSort text tokens vs → AreIn vs tokens
group_in {text = text} (of_sort {tokens = ts} {colon = colon} {sort = sort} {names = names} are colon_is sort_is) = record {
  names = subst (λ ps. Within ps (ts ++ colon ∷ sort ∷ [])) (sym (names_of_group names (named text sort)))
      (in_left (name_places names) ts (colon ∷ sort ∷ []) (names_in are));
  sorts = sorts_of_group names (named text sort) (ts ++ colon ∷ sort ∷ [])
      (in_right (place_of sort ∷ []) ts (colon ∷ sort ∷ []) (in_rest (place_of sort ∷ []) colon (sort ∷ []) (here_within sort [])));
}

group_follows : {text : List ℕ} {tokens : List Token} {vs : List WrittenVariable} → AreVariablesOfSort text tokens vs → Rises tokens
    → VariablesFollow vs
group_follows {text = text} (of_sort {tokens = ts} {colon = colon} {sort = sort} {names = names} are colon_is sort_is) h = (
  subst (λ ps. Rising ps) (sym (names_of_group names (named text sort))) (names_rise are (rises_front ts (colon ∷ sort ∷ []) h)),
  group_sorts_follow names (named text sort),
)

abbrev all_of : {X : Type 0} → List (List X) → List X
all_of groups = flat_map (λ group. group) groups

groups_in : {text : List ℕ} {tokens : List Token} {groups : List (List WrittenVariable)} → Separated COMMA
    (AreVariablesOfSort text) tokens groups
    → AreIn (all_of groups) tokens
groups_in (last {tokens = ts} {value = group} is) = both_in group [] ts (group_in is) (none_in ts)
groups_in (before_more {tokens = ts} {rest = rest} {token = comma} {value = group} {values = groups} is comma_is more) =
    both_in group (all_of groups) (ts ++ comma ∷ rest) (in_left_too group ts (comma ∷ rest) (group_in is))
    (in_right_too (all_of groups) ts (comma ∷ rest) (in_rest_too (all_of groups) comma rest (groups_in more)))

groups_follow : {text : List ℕ} {tokens : List Token} {groups : List (List WrittenVariable)}
    → Separated COMMA (AreVariablesOfSort text) tokens groups → Rises tokens → VariablesFollow (all_of groups)
groups_follow (last {tokens = ts} {value = group} is) h = alone_follows group (group_follows is h)
  where
    alone_follows : (xs : List WrittenVariable) → VariablesFollow xs → VariablesFollow (xs ++ [])
    alone_follows xs one = (
      subst (λ ps. Rising ps) (sym (names_of_both xs [])) (rising_both (variable_names xs) [] one.0 tt (nothing_after (variable_names xs))),
      sorts_follow_both xs [] one.1 tt (nothing_after (sort_places xs)),
    )
groups_follow (before_more {tokens = ts} {rest = rest} {token = comma} {value = group} {values = groups} is comma_is more) h =
    follow_both group (all_of groups) ts (comma ∷ rest) h (group_in is) (in_rest_too (all_of groups) comma rest (groups_in more))
    (group_follows is (rises_front ts (comma ∷ rest) h)) (groups_follow more (rises_back ts (comma ∷ rest) h).1)

whole_in : (vs : List WrittenVariable) (ts : List Token) → AreIn vs ts → Within (variable_places vs) ts
whole_in vs ts h = both_within (variable_names vs) (sort_places vs) ts h.names h.sorts

pub variables_in : {text : List ℕ} {tokens : List Token} {vs : List WrittenVariable} → AreVariables text tokens vs
    → Within (variable_places vs) tokens
variables_in {tokens = tokens} (variables {groups = groups} are) = whole_in (all_of groups) tokens (groups_in are)

pub variables_follow : {text : List ℕ} {tokens : List Token} {vs : List WrittenVariable} → AreVariables text tokens vs → Rises tokens
    → VariablesFollow vs
variables_follow (variables are) h = groups_follow are h

pub parameters_in : {text : List ℕ} {tokens : List Token} {vs : List WrittenVariable} → Optional [] (AreParameters text) tokens vs
    → Within (variable_places vs) tokens
parameters_in left_out = nothing_within []
parameters_in {vs = vs} (there (between {open_token = left} {close_token = right} {tokens = ts} left_is are right_is)) =
    in_rest (variable_places vs) left (ts ++ right ∷ []) (in_left (variable_places vs) ts (right ∷ []) (variables_in are))

pub parameters_follow : {text : List ℕ} {tokens : List Token} {vs : List WrittenVariable} → Optional [] (AreParameters text) tokens vs
    → Rises tokens → VariablesFollow vs
parameters_follow left_out h = (tt, tt)
parameters_follow (there (between {close_token = right} {tokens = ts} left_is are right_is)) h =
    variables_follow are (rises_front ts (right ∷ []) h.1)

-- ---- values of `exit`

value_in : {text : List ℕ} {tokens : List Token} {value : WrittenExitValue} → IsWrittenExitValue text tokens value
    → Within (exit_value_places value) tokens
value_in (any_value {word = word} {sort = sort} word_is sort_is) = in_rest (place_of sort ∷ []) word (sort ∷ []) (here_within sort [])
value_in (value_given is) = term_in is

values_in : {text : List ℕ} {tokens : List Token} {values : List WrittenExitValue} → Separated COMMA (IsWrittenExitValue text) tokens values
    → AllWithin (exit_places values) tokens
values_in (last is) = (value_in is, tt)
values_in (before_more {tokens = ts} {rest = rest} {token = comma} {value = value} {values = values} is comma_is more) = (
  in_left (exit_value_places value) ts (comma ∷ rest) (value_in is),
  all_in_right (exit_places values) ts (comma ∷ rest) (all_in_rest (exit_places values) comma rest (values_in more)),
)

values_turn : {text : List ℕ} {tokens : List Token} {values : List WrittenExitValue}
    → Separated COMMA (IsWrittenExitValue text) tokens values
    → Rises tokens → InTurn (exit_places values)
values_turn (last is) h = (tt, tt)
values_turn (before_more {tokens = ts} {rest = rest} {token = comma} {value = value} {values = values} is comma_is more) h = (
  before_all (exit_value_places value) (exit_places values) ts (comma ∷ rest) h (value_in is)
      (all_in_rest (exit_places values) comma rest (values_in more)),
  values_turn more (rises_back ts (comma ∷ rest) h).1,
)

pub exit_values_in : {text : List ℕ} {tokens : List Token} {values : List WrittenExitValue}
    → Optional [] (Between LEFT_PARENTHESIS RIGHT_PARENTHESIS (Separated COMMA (IsWrittenExitValue text))) tokens values
    → Within (joined_places (exit_places values)) tokens
exit_values_in left_out = nothing_within []
exit_values_in {values = values} (there (between {open_token = left} {close_token = right} {tokens = ts} left_is are right_is)) =
    joined_within (exit_places values) (left ∷ (ts ++ right ∷ []))
    (all_in_rest (exit_places values) left (ts ++ right ∷ []) (all_in_left (exit_places values) ts (right ∷ []) (values_in are)))

pub exit_values_turn : {text : List ℕ} {tokens : List Token} {values : List WrittenExitValue}
    → Optional [] (Between LEFT_PARENTHESIS RIGHT_PARENTHESIS (Separated COMMA (IsWrittenExitValue text))) tokens values → Rises tokens
    → InTurn (exit_places values)
exit_values_turn left_out h = tt
exit_values_turn (there (between {close_token = right} {tokens = ts} left_is are right_is)) h = values_turn are (rises_front ts
    (right ∷ []) h.1)

-- ---- `let`

abbrev Bindings : Type 0
Bindings = List (WrittenVariable × WrittenTerm)

abbrev LetNames : Bindings → List Place
LetNames bindings = variable_names (let_names bindings)

declared_name_in : {text : List ℕ} {tokens : List Token} {binding : WrittenVariable × WrittenTerm} → IsLetDeclaration text tokens binding
    → Within (binding.0.place ∷ []) tokens
declared_name_in (let_declaration {variable = variable} {colon = colon} {sort = sort} {equals = equals} {tokens = ts} a b c d is) =
    here_within variable (colon ∷ sort ∷ equals ∷ ts)

binding_in : {text : List ℕ} {tokens : List Token} {binding : WrittenVariable × WrittenTerm} → IsLetDeclaration text tokens binding
    → Within (binding_places binding) tokens
binding_in (let_declaration {variable = variable} {colon = colon} {sort = sort} {equals = equals} {tokens = ts} {term = term} a b c d is) =
    in_rest (place_of sort ∷ term_places term) variable (colon ∷ sort ∷ equals ∷ ts)
    (in_rest (place_of sort ∷ term_places term) colon (sort ∷ equals ∷ ts)
    (more_within (place_of sort) (term_places term) (sort ∷ equals ∷ ts) (here_within sort (equals ∷ ts))
    (in_rest (term_places term) sort (equals ∷ ts) (in_rest (term_places term) equals ts (term_in is)))))

bindings_in : {text : List ℕ} {tokens : List Token} {bindings : List (WrittenVariable × WrittenTerm)}
    → Separated COMMA (IsLetDeclaration text) tokens bindings → AllWithin (bindings_places bindings) tokens
bindings_in (last is) = (binding_in is, tt)
bindings_in (before_more {tokens = ts} {rest = rest} {token = comma} {value = binding} {values = bindings} is comma_is more) = (
  in_left (binding_places binding) ts (comma ∷ rest) (binding_in is),
  all_in_right (bindings_places bindings) ts (comma ∷ rest) (all_in_rest (bindings_places bindings) comma rest (bindings_in more)),
)

let_names_in : {text : List ℕ} {tokens : List Token} {bindings : List (WrittenVariable × WrittenTerm)}
    → Separated COMMA (IsLetDeclaration text) tokens bindings → Within (LetNames bindings) tokens
let_names_in (last is) = declared_name_in is
let_names_in (before_more {tokens = ts} {rest = rest} {token = comma} {value = binding} {values = bindings} is comma_is more) =
    more_within binding.0.place (LetNames bindings) (ts ++ comma ∷ rest)
    (in_left (binding.0.place ∷ []) ts (comma ∷ rest) (declared_name_in is))
    (in_right (LetNames bindings) ts (comma ∷ rest) (in_rest (LetNames bindings) comma rest (let_names_in more)))

pub let_in : {text : List ℕ} {tokens : List Token} {bindings : List (WrittenVariable × WrittenTerm)}
    → Separated COMMA (IsLetDeclaration text) tokens bindings → Within (let_places bindings) tokens
let_in {tokens = tokens} {bindings = bindings} are =
    both_within (LetNames bindings) (joined_places (bindings_places bindings)) tokens (let_names_in are)
    (joined_within (bindings_places bindings) tokens (bindings_in are))

pub let_follows : {text : List ℕ} {tokens : List Token} {bindings : List (WrittenVariable × WrittenTerm)}
    → Separated COMMA (IsLetDeclaration text) tokens bindings → Rises tokens → LetFollows bindings
let_follows (last {value = binding} is) h = ((nothing_after (binding.0.place ∷ []), tt), (tt, tt))
let_follows (before_more {tokens = ts} {rest = rest} {token = comma} {value = binding} {values = bindings} is comma_is more) h =
    let later = let_follows more (rises_back ts (comma ∷ rest) h).1 in (
      (
        before_parts (binding.0.place ∷ []) (LetNames bindings) ts (comma ∷ rest) h (declared_name_in is)
            (in_rest (LetNames bindings) comma rest (let_names_in more)),
        later.0,
      ),
      (
        before_all (binding_places binding) (bindings_places bindings) ts (comma ∷ rest) h (binding_in is)
            (all_in_rest (bindings_places bindings) comma rest (bindings_in more)),
        later.1,
      ),
    )

-- ---- offers

abbrev AskedNames : List WrittenOffer → List Place
AskedNames offers = variable_names (asked_for offers)

-- The offers stand among the tokens.
record OffersIn (offers : List WrittenOffer) (ts : List Token) : Type 0 where
  names : Within (AskedNames offers) ts
  parts : AllWithin (offered_places offers) ts

asked_of_both : (xs ys : List WrittenOffer) → AskedNames (xs ++ ys) ≡ AskedNames xs ++ AskedNames ys
asked_of_both [] ys = refl
asked_of_both (offer_value term ∷ xs) ys = asked_of_both xs ys
asked_of_both (offer_variable x ∷ xs) ys = ap (λ ps. x.place ∷ ps) (asked_of_both xs ys)

parts_of_both : (xs ys : List WrittenOffer) (ts : List Token) → AllWithin (offered_places xs) ts → AllWithin (offered_places ys) ts
    → AllWithin (offered_places (xs ++ ys)) ts
parts_of_both [] ys ts one other = other
parts_of_both (x ∷ xs) ys ts one other = (one.0, parts_of_both xs ys ts one.1 other)

offers_both : (xs ys : List WrittenOffer) (ts : List Token) → OffersIn xs ts → OffersIn ys ts → OffersIn (xs ++ ys) ts
offers_both xs ys ts one other = record {
  names = subst (λ ps. Within ps ts) (sym (asked_of_both xs ys)) (both_within (AskedNames xs) (AskedNames ys) ts one.names other.names);
  parts = parts_of_both xs ys ts one.parts other.parts;
}

offers_left : (xs : List WrittenOffer) (ts us : List Token) → OffersIn xs ts → OffersIn xs (ts ++ us)
offers_left xs ts us h = record {
  names = in_left (AskedNames xs) ts us h.names;
  parts = all_in_left (offered_places xs) ts us h.parts;
}

offers_right : (xs : List WrittenOffer) (ts us : List Token) → OffersIn xs us → OffersIn xs (ts ++ us)
offers_right xs ts us h = record {
  names = in_right (AskedNames xs) ts us h.names;
  parts = all_in_right (offered_places xs) ts us h.parts;
}

asked_of_group : (vs : List WrittenVariable) → asked_for (map offer_variable vs) ≡ vs
asked_of_group [] = refl
asked_of_group (v ∷ vs) = ap (λ us. v ∷ us) (asked_of_group vs)

asked_sorts : (names : List PlacedName) (sort : PlacedName) (ts : List Token) → Within (sort.place ∷ []) ts
    → AllWithin (offered_places (map offer_variable (variables_of_sort names sort))) ts
asked_sorts [] sort ts one = tt
asked_sorts (name ∷ names) sort ts one = (one, asked_sorts names sort ts one)

asked_names_of : (names : List PlacedName) (sort : PlacedName)
    → AskedNames (map offer_variable (variables_of_sort names sort)) ≡ name_places names
asked_names_of names sort =
    subst (λ vs. variable_names vs ≡ name_places names) (sym (asked_of_group (variables_of_sort names sort))) (names_of_group names sort)

offer_in : {text : List ℕ} {tokens : List Token} {offers : List WrittenOffer} → IsWrittenOffer text tokens offers → OffersIn offers tokens
offer_in (giving {mark = mark} {tokens = ts} {term = term} mark_is is) = record {
  names = nothing_within (mark ∷ ts);
  parts = (in_rest (term_places term) mark ts (term_in is), tt);
}
offer_in {text = text} (asking {mark = mark} {colon = colon} {sort = sort} {tokens = ts} {names = names} mark_is are colon_is sort_is) =
    record {
      names = subst (λ ps. Within ps (mark ∷ (ts ++ colon ∷ sort ∷ []))) (sym (asked_names_of names (named text sort)))
          (in_rest (name_places names) mark (ts ++ colon ∷ sort ∷ []) (in_left (name_places names) ts (colon ∷ sort ∷ []) (names_in are)));
      parts = asked_sorts names (named text sort) (mark ∷ (ts ++ colon ∷ sort ∷ []))
          (in_rest (place_of sort ∷ []) mark (ts ++ colon ∷ sort ∷ [])
          (in_right (place_of sort ∷ []) ts (colon ∷ sort ∷ []) (in_rest (place_of sort ∷ []) colon (sort ∷ []) (here_within sort []))));
    }

same_asked : (names : List PlacedName) (x : WrittenVariable) (sort : PlacedName) → x.sort_place ≡ sort.place
    → Every (OfferFollows (offer_variable x)) (map offer_variable (variables_of_sort names sort))
same_asked [] x sort same = tt
same_asked (name ∷ names) x sort same = (inl same, same_asked names x sort same)

asked_turn : (names : List PlacedName) (sort : PlacedName) → OffersInTurn (map offer_variable (variables_of_sort names sort))
asked_turn [] sort = tt
asked_turn (name ∷ names) sort = (
  same_asked names (record { place = name.place; name = name.name; sort = sort.name; sort_place = sort.place }) sort refl,
  asked_turn names sort,
)

offer_follows_on : {text : List ℕ} {tokens : List Token} {offers : List WrittenOffer} → IsWrittenOffer text tokens offers → Rises tokens
    → OffersFollowOn offers
offer_follows_on (giving mark_is is) h = (tt, (tt, tt))
offer_follows_on {text = text} (asking {mark = mark} {colon = colon} {sort = sort} {tokens = ts}
    {names = names} mark_is are colon_is sort_is) h = (
      subst (λ ps. Rising ps) (sym (asked_names_of names (named text sort))) (names_rise are (rises_front ts (colon ∷ sort ∷ []) h.1)),
      asked_turn names (named text sort),
    )

-- an offer before another one
before_offer : (x y : WrittenOffer) → StandWhollyBefore (offer_places x) (offer_places y) → OfferFollows x y
before_offer (offer_value term) y h = h
before_offer (offer_variable x) (offer_value term) h = h
before_offer (offer_variable x) (offer_variable y) h = inr h

behind_offer : (x : WrittenOffer) (ys : List WrittenOffer) → Every (StandWhollyBefore (offer_places x)) (offered_places ys)
    → Every (OfferFollows x) ys
behind_offer x [] all = tt
behind_offer x (y ∷ ys) all = (before_offer x y all.0, behind_offer x ys all.1)

offers_turn : (xs ys : List WrittenOffer) (ts us : List Token) → Rises (ts ++ us) → AllWithin (offered_places xs) ts
    → AllWithin (offered_places ys) us → OffersInTurn xs → OffersInTurn ys → OffersInTurn (xs ++ ys)
offers_turn [] ys ts us h one other first second = second
offers_turn (x ∷ xs) ys ts us h one other first second = (
  every_both (OfferFollows x) xs ys first.0 (behind_offer x ys (before_all (offer_places x) (offered_places ys) ts us h one.0 other)),
  offers_turn xs ys ts us h one.1 other first.1 second,
)

offers_follow_both : (xs ys : List WrittenOffer) (ts us : List Token) → Rises (ts ++ us) → OffersIn xs ts → OffersIn ys us
    → OffersFollowOn xs → OffersFollowOn ys → OffersFollowOn (xs ++ ys)
offers_follow_both xs ys ts us h one other first second = (
  subst (λ ps. Rising ps) (sym (asked_of_both xs ys))
      (rising_both (AskedNames xs) (AskedNames ys) first.0 second.0
      (before_parts (AskedNames xs) (AskedNames ys) ts us h one.names other.names)),
  offers_turn xs ys ts us h one.parts other.parts first.1 second.1,
)

more_offers_in : {text : List ℕ} {tokens : List Token} {groups : List (List WrittenOffer)} → Many (IsWrittenOffer text) tokens groups
    → OffersIn (all_of groups) tokens
more_offers_in no_more = record { names = nothing_within []; parts = tt }
more_offers_in (and_then {tokens = ts} {rest = rest} {value = group} {values = groups} is more) =
    offers_both group (all_of groups) (ts ++ rest) (offers_left group ts rest (offer_in is))
    (offers_right (all_of groups) ts rest (more_offers_in more))

more_offers_follow : {text : List ℕ} {tokens : List Token} {groups : List (List WrittenOffer)} → Many (IsWrittenOffer text) tokens groups
    → Rises tokens → OffersFollowOn (all_of groups)
more_offers_follow no_more h = (tt, tt)
more_offers_follow (and_then {tokens = ts} {rest = rest} {value = group} {values = groups} is more) h =
    offers_follow_both group (all_of groups) ts rest h (offer_in is) (more_offers_in more) (offer_follows_on is (rises_front ts rest h))
    (more_offers_follow more (rises_back ts rest h))

all_offers_in : {text : List ℕ} {ts us : List Token} {first : List WrittenOffer} {groups : List (List WrittenOffer)}
    → IsWrittenOffer text ts first → Many (IsWrittenOffer text) us groups → OffersIn (first ++ all_of groups) (ts ++ us)
all_offers_in {ts = ts} {us = us} {first = first} {groups = groups} one more =
    offers_both first (all_of groups) (ts ++ us) (offers_left first ts us (offer_in one))
    (offers_right (all_of groups) ts us (more_offers_in more))

pub offers_in : {text : List ℕ} {ts us : List Token} {first : List WrittenOffer} {groups : List (List WrittenOffer)}
    → IsWrittenOffer text ts first → Many (IsWrittenOffer text) us groups
    → Within (offers_places (first ++ flat_map (λ group. group) groups)) (ts ++ us)
offers_in {ts = ts} {us = us} {first = first} {groups = groups} one more =
    let all = all_offers_in one more in
    both_within (AskedNames (first ++ all_of groups)) (joined_places (offered_places (first ++ all_of groups))) (ts ++ us) all.names
    (joined_within (offered_places (first ++ all_of groups)) (ts ++ us) all.parts)

pub offers_follow_on : {text : List ℕ} {ts us : List Token} {first : List WrittenOffer} {groups : List (List WrittenOffer)}
    → IsWrittenOffer text ts first → Many (IsWrittenOffer text) us groups → Rises (ts ++ us)
    → OffersFollowOn (first ++ flat_map (λ group. group) groups)
offers_follow_on {ts = ts} {us = us} {first = first} {groups = groups} one more h =
    offers_follow_both first (all_of groups) ts us h (offer_in one) (more_offers_in more) (offer_follows_on one (rises_front ts us h))
    (more_offers_follow more (rises_back ts us h))

-- ---- gates of a `choice` or a `par`

abbrev ChoiceNames : List WrittenGateChoice → List Place
ChoiceNames gates = name_places (placed_choices gates)

abbrev among_lists : List WrittenGateChoice → List (List Place)
among_lists gates = map (λ (gate : WrittenGateChoice). name_places gate.among) gates

-- The declared gates stand among the tokens, with the gates that they stand for.
record ChoicesIn (gates : List WrittenGateChoice) (ts : List Token) : Type 0 where
  names : Within (ChoiceNames gates) ts
  parts : AllWithin (among_lists gates) ts

choice_names_of : (names gates : List PlacedName) → ChoiceNames (gate_choices_among names gates) ≡ name_places names
choice_names_of [] gates = refl
choice_names_of (name ∷ names) gates = ap (λ ps. name.place ∷ ps) (choice_names_of names gates)

among_of : (names gates : List PlacedName) (ts : List Token) → Within (name_places gates) ts
    → AllWithin (among_lists (gate_choices_among names gates)) ts
among_of [] gates ts one = tt
among_of (name ∷ names) gates ts one = (one, among_of names gates ts one)

choice_names_of_both : (xs ys : List WrittenGateChoice) → ChoiceNames (xs ++ ys) ≡ ChoiceNames xs ++ ChoiceNames ys
choice_names_of_both [] ys = refl
choice_names_of_both (x ∷ xs) ys = ap (λ ps. x.place ∷ ps) (choice_names_of_both xs ys)

among_of_both : (xs ys : List WrittenGateChoice) (ts : List Token) → AllWithin (among_lists xs) ts → AllWithin (among_lists ys) ts
    → AllWithin (among_lists (xs ++ ys)) ts
among_of_both [] ys ts one other = other
among_of_both (x ∷ xs) ys ts one other = (one.0, among_of_both xs ys ts one.1 other)

choices_both : (xs ys : List WrittenGateChoice) (ts : List Token) → ChoicesIn xs ts → ChoicesIn ys ts → ChoicesIn (xs ++ ys) ts
choices_both xs ys ts one other = record {
  names = subst (λ ps. Within ps ts) (sym (choice_names_of_both xs ys))
      (both_within (ChoiceNames xs) (ChoiceNames ys) ts one.names other.names);
  parts = among_of_both xs ys ts one.parts other.parts;
}

choices_left : (xs : List WrittenGateChoice) (ts us : List Token) → ChoicesIn xs ts → ChoicesIn xs (ts ++ us)
choices_left xs ts us h = record {
  names = in_left (ChoiceNames xs) ts us h.names;
  parts = all_in_left (among_lists xs) ts us h.parts;
}

choices_behind : (xs : List WrittenGateChoice) (ts : List Token) (t : Token) (us : List Token) → ChoicesIn xs us
    → ChoicesIn xs (ts ++ t ∷ us)
choices_behind xs ts t us h = record {
  names = in_right (ChoiceNames xs) ts (t ∷ us) (in_rest (ChoiceNames xs) t us h.names);
  parts = all_in_right (among_lists xs) ts (t ∷ us) (all_in_rest (among_lists xs) t us h.parts);
}

choice_group_in : {text : List ℕ} {tokens : List Token} {gates : List WrittenGateChoice} → AreGateChoicesAmong text tokens gates
    → ChoicesIn gates tokens
choice_group_in (among {tokens = ts} {rest = rest} {word = word} {names = names} {gates = gates} are word_is is) = record {
  names = subst (λ ps. Within ps (ts ++ word ∷ rest)) (sym (choice_names_of names gates))
      (in_left (name_places names) ts (word ∷ rest) (names_in are));
  parts = among_of names gates (ts ++ word ∷ rest)
      (in_right (name_places gates) ts (word ∷ rest) (in_rest (name_places gates) word rest (gates_in is)));
}

same_among : (names gates : List PlacedName)
    → Every (λ (e : WrittenGateChoice). (gates ≡ e.among) ⊎ StandWhollyBefore (name_places gates) (name_places e.among))
    (gate_choices_among names gates)
same_among [] gates = tt
same_among (name ∷ names) gates = (inl refl, same_among names gates)

group_among_follow : (names gates : List PlacedName) → Rising (name_places gates) → AmongFollow (gate_choices_among names gates)
group_among_follow [] gates one = tt
group_among_follow (name ∷ names) gates one = (one, same_among names gates, group_among_follow names gates one)

choice_group_follows : {text : List ℕ} {tokens : List Token} {gates : List WrittenGateChoice} → AreGateChoicesAmong text tokens gates
    → Rises tokens → ChoicesFollow gates
choice_group_follows (among {tokens = ts} {rest = rest} {word = word} {names = names} {gates = gates} are word_is is) h = (
  subst (λ ps. Rising ps) (sym (choice_names_of names gates)) (names_rise are (rises_front ts (word ∷ rest) h)),
  group_among_follow names gates (gates_rise is (rises_back ts (word ∷ rest) h).1),
)

behind_among : (gates : List PlacedName) (ys : List WrittenGateChoice) → Every (StandWhollyBefore (name_places gates)) (among_lists ys)
    → Every (λ (e : WrittenGateChoice). (gates ≡ e.among) ⊎ StandWhollyBefore (name_places gates) (name_places e.among)) ys
behind_among gates [] all = tt
behind_among gates (y ∷ ys) all = (inr all.0, behind_among gates ys all.1)

among_follow_both : (xs ys : List WrittenGateChoice) (ts us : List Token) → Rises (ts ++ us) → AllWithin (among_lists xs) ts
    → AllWithin (among_lists ys) us → AmongFollow xs → AmongFollow ys → AmongFollow (xs ++ ys)
among_follow_both [] ys ts us h one other first second = second
among_follow_both (x ∷ xs) ys ts us h one other first second = (
  first.0,
  every_both (λ (e : WrittenGateChoice). (x.among ≡ e.among) ⊎ StandWhollyBefore (name_places x.among) (name_places e.among)) xs ys first.1
      (behind_among x.among ys (before_all (name_places x.among) (among_lists ys) ts us h one.0 other)),
  among_follow_both xs ys ts us h one.1 other first.2 second,
)

choices_follow_both : (xs ys : List WrittenGateChoice) (ts us : List Token) → Rises (ts ++ us) → ChoicesIn xs ts → ChoicesIn ys us
    → ChoicesFollow xs → ChoicesFollow ys → ChoicesFollow (xs ++ ys)
choices_follow_both xs ys ts us h one other first second = (
  subst (λ ps. Rising ps) (sym (choice_names_of_both xs ys))
      (rising_both (ChoiceNames xs) (ChoiceNames ys) first.0 second.0
      (before_parts (ChoiceNames xs) (ChoiceNames ys) ts us h one.names other.names)),
  among_follow_both xs ys ts us h one.parts other.parts first.1 second.1,
)

choice_groups_in : {text : List ℕ} {tokens : List Token} {groups : List (List WrittenGateChoice)}
    → Separated COMMA (AreGateChoicesAmong text) tokens groups → ChoicesIn (all_of groups) tokens
choice_groups_in (last {tokens = ts} {value = group} is) =
    choices_both group [] ts (choice_group_in is) (record { names = nothing_within ts; parts = tt })
choice_groups_in (before_more {tokens = ts} {rest = rest} {token = comma} {value = group} {values = groups} is comma_is more) =
    choices_both group (all_of groups) (ts ++ comma ∷ rest) (choices_left group ts (comma ∷ rest) (choice_group_in is))
    (choices_behind (all_of groups) ts comma rest (choice_groups_in more))

choice_groups_follow : {text : List ℕ} {tokens : List Token} {groups : List (List WrittenGateChoice)}
    → Separated COMMA (AreGateChoicesAmong text) tokens groups → Rises tokens → ChoicesFollow (all_of groups)
choice_groups_follow (last {tokens = ts} {value = group} is) h = alone_follows group (choice_group_follows is h)
  where
    among_alone : (xs : List WrittenGateChoice) → AmongFollow xs → AmongFollow (xs ++ [])
    among_alone [] one = tt
    among_alone (x ∷ xs) one = (
      one.0,
      every_both (λ (e : WrittenGateChoice). (x.among ≡ e.among) ⊎ StandWhollyBefore (name_places x.among) (name_places e.among)) xs []
          one.1 tt,
      among_alone xs one.2,
    )

    alone_follows : (xs : List WrittenGateChoice) → ChoicesFollow xs → ChoicesFollow (xs ++ [])
    alone_follows xs one = (
      subst (λ ps. Rising ps) (sym (choice_names_of_both xs [])) (rising_both (ChoiceNames xs) [] one.0 tt (nothing_after
          (ChoiceNames xs))),
      among_alone xs one.1,
    )
choice_groups_follow (before_more {tokens = ts} {rest = rest} {token = comma} {value = group} {values = groups} is comma_is more) h =
    choices_follow_both group (all_of groups) ts (comma ∷ rest) h (choice_group_in is)
    (rest_in (all_of groups) comma rest (choice_groups_in more))
    (choice_group_follows is (rises_front ts (comma ∷ rest) h)) (choice_groups_follow more (rises_back ts (comma ∷ rest) h).1)
  where
    rest_in : (xs : List WrittenGateChoice) (t : Token) (us : List Token) → ChoicesIn xs us → ChoicesIn xs (t ∷ us)
    rest_in xs t us one = record {
      names = in_rest (ChoiceNames xs) t us one.names;
      parts = all_in_rest (among_lists xs) t us one.parts;
    }

pub choices_in : {text : List ℕ} {tokens : List Token} {gates : List WrittenGateChoice} → AreGateChoices text tokens gates
    → Within (choice_places gates) tokens
choices_in {tokens = tokens} (gate_choices {groups = groups} are) =
    let all = choice_groups_in are in
    both_within (ChoiceNames (all_of groups)) (joined_places (among_lists (all_of groups))) tokens all.names
    (joined_within (among_lists (all_of groups)) tokens all.parts)

pub choices_follow : {text : List ℕ} {tokens : List Token} {gates : List WrittenGateChoice} → AreGateChoices text tokens gates
    → Rises tokens → ChoicesFollow gates
choices_follow (gate_choices are) h = choice_groups_follow are h

-- ---- signs

pub parallel_sign_in : {text : List ℕ} {tokens : List Token} {sign : PlacedSign} → IsParallelSign text tokens sign
    → Within (sign_places sign.sign) tokens
parallel_sign_in (sign_interleaving {sign = sign} is) = nothing_within (sign ∷ [])
parallel_sign_in (sign_full {sign = sign} is) = nothing_within (sign ∷ [])
parallel_sign_in (sign_gates {left = left} {right = right} {tokens = ts} {gates = gates} left_is are right_is) =
    in_rest (name_places gates) left (ts ++ right ∷ []) (in_left (name_places gates) ts (right ∷ []) (optional_names_in are))

pub parallel_sign_follows : {text : List ℕ} {tokens : List Token} {sign : PlacedSign} → IsParallelSign text tokens sign → Rises tokens
    → SignFollows sign.sign
parallel_sign_follows (sign_interleaving is) h = tt
parallel_sign_follows (sign_full is) h = tt
parallel_sign_follows (sign_gates {right = right} {tokens = ts} left_is are right_is) h =
    optional_names_rise are (rises_front ts (right ∷ []) h.1)

accepted_in : {text : List ℕ} {tokens : List Token} {vs : List WrittenVariable} → Optional [] (Between ACCEPT IN
    (AreVariables text)) tokens vs
    → Within (variable_places vs) tokens
accepted_in left_out = nothing_within []
accepted_in {vs = vs} (there (between {open_token = left} {close_token = right} {tokens = ts} left_is are right_is)) =
    in_rest (variable_places vs) left (ts ++ right ∷ []) (in_left (variable_places vs) ts (right ∷ []) (variables_in are))

accepted_follow : {text : List ℕ} {tokens : List Token} {vs : List WrittenVariable}
    → Optional [] (Between ACCEPT IN (AreVariables text)) tokens vs → Rises tokens → VariablesFollow vs
accepted_follow left_out h = (tt, tt)
accepted_follow (there (between {close_token = right} {tokens = ts} left_is are right_is)) h =
    variables_follow are (rises_front ts (right ∷ []) h.1)

pub sign_in : {text : List ℕ} {tokens : List Token} {sign : PlacedSign} → IsSign text tokens sign → Within (sign_places sign.sign) tokens
sign_in (sign_choice {sign = sign} is) = nothing_within (sign ∷ [])
sign_in (sign_parallel is) = parallel_sign_in is
sign_in (sign_disabling {sign = sign} is) = nothing_within (sign ∷ [])
sign_in (sign_enabling {sign = sign} {tokens = ts} {accepted = vs} is are) = in_rest (variable_places vs) sign ts (accepted_in are)

pub sign_follows : {text : List ℕ} {tokens : List Token} {sign : PlacedSign} → IsSign text tokens sign → Rises tokens
    → SignFollows sign.sign
sign_follows (sign_choice is) h = tt
sign_follows (sign_parallel is) h = parallel_sign_follows is h
sign_follows (sign_disabling is) h = tt
sign_follows (sign_enabling is are) h = accepted_follow are h.1
