-- The places of behaviours in texts.
use Rattle.std.proofs.Common.{◌≡◌, ℕ, List, [], ◌∷◌, ◌++◌, flat_map, refl, ap, sym, subst, inl, inr}
use Rattle.std.specs.Prelude.{◌⊎◌, Option, None, true}
use Rattle.scope_parts.proofs.OrderLemmas.{in_either, both_before, in_left as one_left, in_right as one_right}
use Rattle.lotos_base.specs.Equation.{Place}
use Rattle.lotos_lexer.specs.declared.tokens.Token.{Token}
use Rattle.syntax_trees.specs.WrittenEquation.{WrittenPremiss}
use Rattle.syntax_trees.specs.WrittenBehaviour.{WrittenBehaviour, WrittenOffer, action, inner_action, guard, hide, let_be, choose_value, choose_gate, par_gate}
use Rattle.syntax_trees.specs.Strength.{PlacedSign, strength_of, joined_by_sign as with_sign}
use Rattle.syntax_trees.specs.Grouping.{IsGrouped, alone, split}
use Rattle.lotos_rows.specs.Words.{Optional, left_out, there}
use Rattle.lotos_rows.specs.Names.{place_of, spelled}
use Rattle.lotos_rows.specs.Behaviours.{IsSelection, selection, AreOperands, hiding, letting, choosing_values, choosing_gates, parallel_over_gates, inner_prefix, guarding, acting, offering, last_operand, before_sign, before_first, IsAtom, stopping, exiting, calling, in_brackets, IsBehaviourText, grouped_operands}
use Rattle.behaviour_semantics.specs.WellFormed.{Every}
use Rattle.behaviour_semantics.proofs.EveryLemmas.{every_front, every_back, every_map}
use Rattle.scope_parts.specs.ScopeFault.{stands_before}
use Rattle.scope_parts.specs.Order.{IsOneOfPlaces, StandWhollyBefore, InTurn, joined_places}
use Rattle.scope_parts.specs.TermPlaces.{name_places, premiss_places}
use Rattle.scope_parts.specs.PartPlaces.{exit_places, value_places, let_places, variable_places, choice_places, sign_places, SignFollows, offers_places, OffersFollowOn}
use Rattle.scope_parts.specs.BehaviourPlaces.{test_places, behaviour_places, Follows}
use Rattle.scope_parts.proofs.PartsTell.{before_all as before_joined}
use Rattle.declaration_laws.proofs.TokenOrder.{At, Rises, Within, AllWithin, rises_front, rises_back, nothing_within, here_within, in_left, in_right, in_rest, both_within, more_within, joined_within, before_parts, before_first as before_rest, before_all, before_third, first_before, nothing_after, nothing_before, in_front, rises_two, all_in_right}
use Rattle.declaration_laws.proofs.TermPlaceLemmas.{optional_gates_in, optional_gates_rise, values_in, values_turn, premiss_in}
use Rattle.declaration_laws.proofs.PartPlaceLemmas.{variables_in, variables_follow, exit_values_in, exit_values_turn, let_in, let_follows, offers_in, offers_follow_on, choices_in, choices_follow, parallel_sign_in, parallel_sign_follows, sign_in, sign_follows}

-- ---- two and three parts in turn

pub two_turn : (ps qs : List Place) → StandWhollyBefore ps qs → InTurn (ps ∷ qs ∷ [])
two_turn ps qs h = ((h, tt), (tt, tt))

pub three_turn : (ps qs rs : List Place) → StandWhollyBefore ps qs → StandWhollyBefore ps rs → StandWhollyBefore qs rs
    → InTurn (ps ∷ qs ∷ rs ∷ [])
three_turn ps qs rs first second third = ((first, (second, tt)), two_turn qs rs third)

-- ---- operands and the signs between them

-- the places behind an operand, given those from the next operand on
abbrev behind : (List PlacedSign → List (List Place)) → List PlacedSign → List (List Place)
behind rest [] = []
behind rest (sign ∷ signs) = sign_places sign.sign ∷ rest signs

-- the places of the operands and of the signs, in text order
abbrev lined : List WrittenBehaviour → List PlacedSign → List (List Place)
lined [] signs = []
lined (b ∷ bs) signs = behaviour_places b ∷ behind (lined bs) signs

-- There is one operand more than signs.
abbrev Fit : List WrittenBehaviour → List PlacedSign → Type 0
Fit [] signs = ⊥
Fit (b ∷ bs) [] = bs ≡ []
Fit (b ∷ bs) (sign ∷ signs) = Fit bs signs

fit_both : (bs cs : List WrittenBehaviour) (first : List PlacedSign) (sign : PlacedSign) (second : List PlacedSign) → Fit bs first
    → Fit cs second → Fit (bs ++ cs) (first ++ sign ∷ second)
fit_both [] cs first sign second one other = absurd one
fit_both (b ∷ bs) cs [] sign second one other = subst (λ (xs : List WrittenBehaviour). Fit (xs ++ cs) second) (sym one) other
fit_both (b ∷ bs) cs (s ∷ first) sign second one other = fit_both bs cs first sign second one other

fit_grouped : {bs : List WrittenBehaviour} {signs : List PlacedSign} {b : WrittenBehaviour} → IsGrouped strength_of with_sign bs signs b
    → Fit bs signs
fit_grouped alone = refl
fit_grouped (split {operands = bs} {others = cs} {before = first} {behind = second} {sign = sign} h k left right) =
    fit_both bs cs first sign second (fit_grouped left) (fit_grouped right)

lined_both : (bs cs : List WrittenBehaviour) (first : List PlacedSign) (sign : PlacedSign) (second : List PlacedSign) → Fit bs first
    → lined (bs ++ cs) (first ++ sign ∷ second) ≡ lined bs first ++ (sign_places sign.sign ∷ lined cs second)
lined_both [] cs first sign second one = absurd one
lined_both (b ∷ bs) cs [] sign second one =
    ap (λ (xs : List WrittenBehaviour). behaviour_places b ∷ sign_places sign.sign ∷ lined (xs ++ cs) second) one
lined_both (b ∷ bs) cs (s ∷ first) sign second one =
    ap (λ pss. behaviour_places b ∷ sign_places s.sign ∷ pss) (lined_both bs cs first sign second one)

-- ---- lists of parts

joined_left : (p : Place) (pss qss : List (List Place)) → IsOneOfPlaces p (joined_places pss) → IsOneOfPlaces p (joined_places (pss ++ qss))
joined_left p [] qss at = absurd at
joined_left p (ps ∷ pss) qss at = go (in_either p ps (joined_places pss) at) (λ later. joined_left p pss qss later)
  where
    go : IsOneOfPlaces p ps ⊎ IsOneOfPlaces p (joined_places pss)
        → (IsOneOfPlaces p (joined_places pss) → IsOneOfPlaces p (joined_places (pss ++ qss)))
        → IsOneOfPlaces p (ps ++ joined_places (pss ++ qss))
    go (inl here) more = one_left p ps (joined_places (pss ++ qss)) here
    go (inr later) more = one_right p ps (joined_places (pss ++ qss)) (more later)

joined_right : (p : Place) (pss qss : List (List Place)) → IsOneOfPlaces p (joined_places qss)
    → IsOneOfPlaces p (joined_places (pss ++ qss))
joined_right p [] qss at = at
joined_right p (ps ∷ pss) qss at = one_right p ps (joined_places (pss ++ qss)) (joined_right p pss qss at)

turn_front : (pss qss : List (List Place)) → InTurn (pss ++ qss) → InTurn pss
turn_front [] qss h = tt
turn_front (ps ∷ pss) qss h = (every_front (StandWhollyBefore ps) pss qss h.0, turn_front pss qss h.1)

turn_back : (pss qss : List (List Place)) → InTurn (pss ++ qss) → InTurn qss
turn_back [] qss h = h
turn_back (ps ∷ pss) qss h = turn_back pss qss h.1

turn_across : (pss qss : List (List Place)) → InTurn (pss ++ qss) → StandWhollyBefore (joined_places pss) (joined_places qss)
turn_across [] qss h = λ p q here later. absurd here
turn_across (ps ∷ pss) qss h =
    both_before ps (joined_places pss) (joined_places qss) (before_joined ps qss (every_back (StandWhollyBefore ps) pss qss h.0))
    (turn_across pss qss h.1)

-- ---- grouping

grouped_part : {bs : List WrittenBehaviour} {signs : List PlacedSign} {b : WrittenBehaviour} → IsGrouped strength_of with_sign bs signs b
    → (p : Place) → IsOneOfPlaces p (behaviour_places b) → IsOneOfPlaces p (joined_places (lined bs signs))
grouped_part (alone {operand = b}) p at = one_left p (behaviour_places b) [] at
grouped_part (split {operands = bs} {others = cs} {before = first} {behind = second} {sign = sign} {left = l}
    {right = r} h k left right) p at =
    subst (λ (pss : List (List Place)). IsOneOfPlaces p (joined_places pss)) (sym (lined_both bs cs first sign second (fit_grouped left)))
    (go (in_either p (behaviour_places l) (sign_places sign.sign ++ behaviour_places r) at) (λ here. grouped_part left p here)
    (λ here. grouped_part right p here))
  where
    signed : IsOneOfPlaces p (sign_places sign.sign) ⊎ IsOneOfPlaces p (behaviour_places r)
        → (IsOneOfPlaces p (behaviour_places r) → IsOneOfPlaces p (joined_places (lined cs second)))
        → IsOneOfPlaces p (sign_places sign.sign ++ joined_places (lined cs second))
    signed (inl here) second_part = one_left p (sign_places sign.sign) (joined_places (lined cs second)) here
    signed (inr later) second_part = one_right p (sign_places sign.sign) (joined_places (lined cs second)) (second_part later)

    go : IsOneOfPlaces p (behaviour_places l) ⊎ IsOneOfPlaces p (sign_places sign.sign ++ behaviour_places r)
        → (IsOneOfPlaces p (behaviour_places l) → IsOneOfPlaces p (joined_places (lined bs first)))
        → (IsOneOfPlaces p (behaviour_places r) → IsOneOfPlaces p (joined_places (lined cs second)))
        → IsOneOfPlaces p (joined_places (lined bs first ++ (sign_places sign.sign ∷ lined cs second)))
    go (inl here) first_part second_part = joined_left p (lined bs first) (sign_places sign.sign ∷ lined cs second) (first_part here)
    go (inr later) first_part second_part = joined_right p (lined bs first) (sign_places sign.sign ∷ lined cs second)
        (signed (in_either p (sign_places sign.sign) (behaviour_places r) later) second_part)

abbrev SignOf : PlacedSign → Type 0
SignOf sign = SignFollows sign.sign

grouped_follows : {bs : List WrittenBehaviour} {signs : List PlacedSign} {b : WrittenBehaviour} → IsGrouped strength_of with_sign bs signs b
    → InTurn (lined bs signs) → Every Follows bs → Every SignOf signs → Follows b
grouped_follows alone turn each all = each.0
grouped_follows (split {operands = bs} {others = cs} {before = first} {behind = second} {sign = sign} {left = l} {right = r} h k left right)
    turn each all =
    let turns : InTurn (lined bs first ++ (sign_places sign.sign ∷ lined cs second)) =
    subst (λ (pss : List (List Place)). InTurn pss) (lined_both bs cs first sign second (fit_grouped left)) turn in
    let back = turn_back (lined bs first) (sign_places sign.sign ∷ lined cs second) turns in
    let across = turn_across (lined bs first) (sign_places sign.sign ∷ lined cs second) turns in
    let signs = every_back SignOf first (sign ∷ second) all in (
      three_turn (behaviour_places l) (sign_places sign.sign) (behaviour_places r)
          (λ p q here later. across p q (grouped_part left p here)
          (one_left q (sign_places sign.sign) (joined_places (lined cs second)) later))
          (λ p q here later. across p q (grouped_part left p here)
          (one_right q (sign_places sign.sign) (joined_places (lined cs second)) (grouped_part right q later)))
          (λ p q here later. before_joined (sign_places sign.sign) (lined cs second) back.0 p q here (grouped_part right q later)),
      signs.0,
      grouped_follows left (turn_front (lined bs first) (sign_places sign.sign ∷ lined cs second) turns) (every_front Follows bs cs each)
          (every_front SignOf first (sign ∷ second) all),
      grouped_follows right back.1 (every_back Follows bs cs each) signs.1,
    )

-- ---- something in front of the first operand

-- All places of the second behaviour are among these and those of the first one.
abbrev Adds : List Place → WrittenBehaviour → WrittenBehaviour → Type 0
Adds extra b c = (p : Place) → IsOneOfPlaces p (behaviour_places c) → IsOneOfPlaces p extra ⊎ IsOneOfPlaces p (behaviour_places b)

prefixed_in : (prefix : WrittenBehaviour → WrittenBehaviour) (extra : List Place) (bs : List WrittenBehaviour) (signs : List PlacedSign)
    (tokens rest : List Token) → ((b : WrittenBehaviour) → Adds extra b (prefix b)) → Within extra tokens
    → ((ps : List Place) → Within ps rest → Within ps tokens) → AllWithin (lined bs signs) rest
    → AllWithin (lined (before_first prefix bs) signs) tokens
prefixed_in prefix extra [] signs tokens rest adds one lift all = tt
prefixed_in prefix extra (b ∷ bs) signs tokens rest adds one lift all = (
  λ p at. go p (adds b p at),
  every_map (λ (ps : List Place). Within ps rest) (λ (ps : List Place). Within ps tokens) lift (behind (lined bs) signs) all.1,
)
  where
    go : (p : Place) → IsOneOfPlaces p extra ⊎ IsOneOfPlaces p (behaviour_places b) → At p tokens
    go p (inl here) = one p here
    go p (inr later) = lift (behaviour_places b) all.0 p later

every_two : {X : Type 0} (P Q R : X → Type 0) → ((x : X) → P x → Q x → R x) → (xs : List X) → Every P xs → Every Q xs → Every R xs
every_two P Q R onward [] one other = tt
every_two P Q R onward (x ∷ xs) one other = (onward x one.0 other.0, every_two P Q R onward xs one.1 other.1)

prefixed_turn : (prefix : WrittenBehaviour → WrittenBehaviour) (extra : List Place) (bs : List WrittenBehaviour) (signs : List PlacedSign)
    (rest : List Token) → ((b : WrittenBehaviour) → Adds extra b (prefix b))
    → ((qs : List Place) → Within qs rest → StandWhollyBefore extra qs)
    → AllWithin (lined bs signs) rest → InTurn (lined bs signs) → InTurn (lined (before_first prefix bs) signs)
prefixed_turn prefix extra [] signs rest adds after all turn = tt
prefixed_turn prefix extra (b ∷ bs) signs rest adds after all turn = (
  every_two (λ (qs : List Place). Within qs rest) (StandWhollyBefore (behaviour_places b)) (StandWhollyBefore (behaviour_places (prefix b)))
      (λ qs within before p q here later. go qs within before p q later (adds b p here)) (behind (lined bs) signs) all.1 turn.0,
  turn.1,
)
  where
    go : (qs : List Place) → Within qs rest → StandWhollyBefore (behaviour_places b) qs → (p q : Place) → IsOneOfPlaces q qs
        → IsOneOfPlaces p extra ⊎ IsOneOfPlaces p (behaviour_places b) → stands_before p q ≡ true
    go qs within before p q later (inl here) = after qs within p q here later
    go qs within before p q later (inr here) = before p q here later

prefixed_each : (prefix : WrittenBehaviour → WrittenBehaviour) (bs : List WrittenBehaviour) (signs : List PlacedSign) (rest : List Token)
    → AllWithin (lined bs signs) rest
    → ((b : WrittenBehaviour) → Within (behaviour_places b) rest → Follows b → Follows (prefix b)) → Every Follows bs
    → Every Follows (before_first prefix bs)
prefixed_each prefix [] signs rest all onward each = tt
prefixed_each prefix (b ∷ bs) signs rest all onward each = (onward b all.0 each.0, each.1)

-- ---- tests

test_in : {text : List ℕ} {tokens : List Token} {test : Option WrittenPremiss} → Optional None (IsSelection text) tokens test
    → Within (test_places test) tokens
test_in left_out = nothing_within []
test_in (there (selection {left = left} {right = right} {tokens = ts} {test = test} left_is is right_is)) =
    in_rest (premiss_places test) left (ts ++ right ∷ []) (in_left (premiss_places test) ts (right ∷ []) (premiss_in is))

-- ---- behaviours

-- What is said of operands and signs: they stand in turn, and each of them by itself.
record Line (bs : List WrittenBehaviour) (signs : List PlacedSign) : Type 0 where
  turn : InTurn (lined bs signs)
  each : Every Follows bs
  between : Every SignOf signs

alone_line : (b : WrittenBehaviour) → Follows b → Line (b ∷ []) []
alone_line b h = record { turn = (tt, tt); each = (h, tt); between = tt }

guard_adds : (place : Place) (test : WrittenPremiss) (b : WrittenBehaviour) → Adds (premiss_places test) b (guard place test b)
guard_adds place test b p at = in_either p (premiss_places test) (behaviour_places b) at

inner_adds : (place : Place) (b : WrittenBehaviour) → Adds [] b (inner_action place b)
inner_adds place b p at = inr at

action_adds : (place : Place) (gate : List ℕ) (offers : List WrittenOffer) (test : Option WrittenPremiss) (b : WrittenBehaviour)
    → Adds (place ∷ (offers_places offers ++ test_places test)) b (action place gate offers test b)
action_adds place gate offers test b p (inl same) = inl (inl same)
action_adds place gate offers test b p (inr at) = go (in_either p (offers_places offers) (test_places test ++ behaviour_places b) at)
  where
    tests : IsOneOfPlaces p (test_places test) ⊎ IsOneOfPlaces p (behaviour_places b)
        → IsOneOfPlaces p (place ∷ (offers_places offers ++ test_places test)) ⊎ IsOneOfPlaces p (behaviour_places b)
    tests (inl here) = inl (inr (one_right p (offers_places offers) (test_places test) here))
    tests (inr later) = inr later

    go : IsOneOfPlaces p (offers_places offers) ⊎ IsOneOfPlaces p (test_places test ++ behaviour_places b)
        → IsOneOfPlaces p (place ∷ (offers_places offers ++ test_places test)) ⊎ IsOneOfPlaces p (behaviour_places b)
    go (inl here) = inl (inr (one_left p (offers_places offers) (test_places test) here))
    go (inr later) = tests (in_either p (test_places test) (behaviour_places b) later)

action_follows : (place : Place) (gate : List ℕ) (offers : List WrittenOffer) (test : Option WrittenPremiss) (b : WrittenBehaviour)
    → StandWhollyBefore (place ∷ []) (offers_places offers) → StandWhollyBefore (place ∷ []) (test_places test)
    → StandWhollyBefore (place ∷ []) (behaviour_places b)
    → StandWhollyBefore (offers_places offers) (test_places test) → StandWhollyBefore (offers_places offers) (behaviour_places b)
    → StandWhollyBefore (test_places test) (behaviour_places b)
    → InTurn ((place ∷ []) ∷ offers_places offers ∷ test_places test ∷ behaviour_places b ∷ [])
action_follows place gate offers test b one two three four five six =
    ((one, (two, (three, tt))), three_turn (offers_places offers) (test_places test) (behaviour_places b) four five six)

-- an action with offers before operands
offering_line : (text : List ℕ) (gate semicolon : Token) (fs os us ts : List Token) (offers : List WrittenOffer)
    (test : Option WrittenPremiss) (bs : List WrittenBehaviour) (signs : List PlacedSign)
    → Rises (gate ∷ (fs ++ (os ++ (us ++ semicolon ∷ ts)))) → Within (offers_places offers) (fs ++ os) → OffersFollowOn offers
    → Within (test_places test) us → AllWithin (lined bs signs) ts → Line bs signs
    → Line (before_first (action (place_of gate) (spelled text gate) offers test) bs) signs
offering_line text gate semicolon fs os us ts offers test bs signs h offered follow_on tested all line = record {
  turn = prefixed_turn (action (place_of gate) (spelled text gate) offers test) (place_of gate ∷
      (offers_places offers ++ test_places test)) bs
      signs ts (action_adds (place_of gate) (spelled text gate) offers test) after all line.turn;
  each = prefixed_each (action (place_of gate) (spelled text gate) offers test) bs signs ts all
      (λ b within follows. (
        action_follows (place_of gate) (spelled text gate) offers test b first_offers first_test (first_rest (behaviour_places b) within)
            offers_test (offers_rest (behaviour_places b) within) (test_rest (behaviour_places b) within),
        follow_on,
        follows,
      )) line.each;
  between = line.between;
}
  where
    test_there : Within (test_places test) (us ++ semicolon ∷ ts)
    test_there = in_left (test_places test) us (semicolon ∷ ts) tested

    rest_there : (qs : List Place) → Within qs ts → Within qs (us ++ semicolon ∷ ts)
    rest_there qs within = in_right qs us (semicolon ∷ ts) (in_rest qs semicolon ts within)

    behind_both : (qs : List Place) → Within qs (us ++ semicolon ∷ ts) → Within qs (fs ++ (os ++ (us ++ semicolon ∷ ts)))
    behind_both qs within = in_right qs fs (os ++ (us ++ semicolon ∷ ts)) (in_right qs os (us ++ semicolon ∷ ts) within)

    first_offers : StandWhollyBefore (place_of gate ∷ []) (offers_places offers)
    first_offers = before_rest gate (offers_places offers) (fs ++ (os ++ (us ++ semicolon ∷ ts))) h
        (in_front (offers_places offers) fs os (us ++ semicolon ∷ ts) offered)

    first_test : StandWhollyBefore (place_of gate ∷ []) (test_places test)
    first_test = before_rest gate (test_places test) (fs ++ (os ++ (us ++ semicolon ∷ ts))) h (behind_both (test_places test) test_there)

    first_rest : (qs : List Place) → Within qs ts → StandWhollyBefore (place_of gate ∷ []) qs
    first_rest qs within =
        before_rest gate qs (fs ++ (os ++ (us ++ semicolon ∷ ts))) h (behind_both qs (rest_there qs within))

    offers_test : StandWhollyBefore (offers_places offers) (test_places test)
    offers_test = before_third (offers_places offers) (test_places test) fs os (us ++ semicolon ∷ ts) h.1 offered test_there

    offers_rest : (qs : List Place) → Within qs ts → StandWhollyBefore (offers_places offers) qs
    offers_rest qs within = before_third (offers_places offers) qs fs os (us ++ semicolon ∷ ts) h.1 offered (rest_there qs within)

    test_rest : (qs : List Place) → Within qs ts → StandWhollyBefore (test_places test) qs
    test_rest qs within =
        before_parts (test_places test) qs us (semicolon ∷ ts)
        (rises_back os (us ++ semicolon ∷ ts) (rises_back fs (os ++ (us ++ semicolon ∷ ts)) h.1)) tested
        (in_rest qs semicolon ts within)

    after : (qs : List Place) → Within qs ts → StandWhollyBefore (place_of gate ∷ (offers_places offers ++ test_places test)) qs
    after qs within =
        first_before (place_of gate) (offers_places offers ++ test_places test) qs (first_rest qs within)
        (both_before (offers_places offers) (test_places test) qs (offers_rest qs within) (test_rest qs within))

mutual
  pub behaviour_in : {text : List ℕ} {tokens : List Token} {b : WrittenBehaviour} → IsBehaviourText text tokens b
      → Within (behaviour_places b) tokens
  behaviour_in {tokens = tokens} (grouped_operands {operands = bs} {signs = signs} are grouped) p at =
      joined_within (lined bs signs) tokens (operands_in are) p (grouped_part grouped p at)

  atom_in : {text : List ℕ} {tokens : List Token} {b : WrittenBehaviour} → IsAtom text tokens b → Within (behaviour_places b) tokens
  atom_in (stopping {word = word} is) = nothing_within (word ∷ [])
  atom_in (exiting {word = word} {tokens = ts} {values = values} is are) = in_rest (joined_places (exit_places values)) word ts
      (exit_values_in are)
  atom_in (calling {name = name} {gate_tokens = gs} {tokens = ts} {gates = gates} {values = values} is gates_are values_are) =
      more_within _ (name_places gates ++ joined_places (value_places values)) (name ∷ (gs ++ ts)) (here_within name (gs ++ ts))
      (in_rest (name_places gates ++ joined_places (value_places values)) name (gs ++ ts)
      (both_within (name_places gates) (joined_places (value_places values)) (gs ++ ts)
      (in_left (name_places gates) gs ts (optional_gates_in gates_are))
      (in_right (joined_places (value_places values)) gs ts (joined_within (value_places values) ts (values_in values_are)))))
  atom_in (in_brackets {left = left} {right = right} {tokens = ts} {inside = b} left_is is right_is) =
      in_rest (behaviour_places b) left (ts ++ right ∷ []) (in_left (behaviour_places b) ts (right ∷ []) (behaviour_in is))

  operands_in : {text : List ℕ} {tokens : List Token} {bs : List WrittenBehaviour} {signs : List PlacedSign}
      → AreOperands text tokens bs signs → AllWithin (lined bs signs) tokens
  operands_in (hiding {word = word} {in_ = in_} {name_tokens = ns} {tokens = ts} {inside = b} word_is names in_is is) = (
    in_rest (behaviour_places b) word (ns ++ in_ ∷ ts)
        (in_right (behaviour_places b) ns (in_ ∷ ts) (in_rest (behaviour_places b) in_ ts (behaviour_in is))),
    tt,
  )
  operands_in (letting {word = word} {in_ = in_} {value_tokens = vs} {tokens = ts} {values = values} {inside = b} word_is are in_is is) = (
    in_rest (let_places values ++ behaviour_places b) word (vs ++ in_ ∷ ts)
        (both_within (let_places values) (behaviour_places b) (vs ++ in_ ∷ ts) (in_left (let_places values) vs (in_ ∷ ts) (let_in are))
        (in_right (behaviour_places b) vs (in_ ∷ ts) (in_rest (behaviour_places b) in_ ts (behaviour_in is)))),
    tt,
  )
  operands_in (choosing_values {word = word} {sign = sign} {variable_tokens = vs} {tokens = ts} {variables = xs} {inside = b} word_is are
      sign_is is) = (
        in_rest (variable_places xs ++ behaviour_places b) word (vs ++ sign ∷ ts)
            (both_within (variable_places xs) (behaviour_places b) (vs ++ sign ∷ ts) (in_left (variable_places xs) vs (sign ∷ ts)
            (variables_in are))
            (in_right (behaviour_places b) vs (sign ∷ ts) (in_rest (behaviour_places b) sign ts (behaviour_in is)))),
        tt,
      )
  operands_in (choosing_gates {word = word} {sign = sign} {gate_tokens = gs} {tokens = ts} {gates = gates}
      {inside = b} word_is are sign_is is) = (
        in_rest (choice_places gates ++ behaviour_places b) word (gs ++ sign ∷ ts)
            (both_within (choice_places gates) (behaviour_places b) (gs ++ sign ∷ ts) (in_left (choice_places gates) gs (sign ∷ ts)
            (choices_in are))
            (in_right (behaviour_places b) gs (sign ∷ ts) (in_rest (behaviour_places b) sign ts (behaviour_in is)))),
        tt,
      )
  operands_in (parallel_over_gates {word = word} {gate_tokens = gs} {sign_tokens = ss} {tokens = ts} {gates = gates} {sign = sign}
      {inside = b} word_is are sign_is is) = (
        in_rest ((choice_places gates ++ sign_places sign.sign) ++ behaviour_places b) word (gs ++ (ss ++ ts))
            (both_within (choice_places gates ++ sign_places sign.sign) (behaviour_places b) (gs ++ (ss ++ ts))
            (both_within (choice_places gates) (sign_places sign.sign) (gs ++ (ss ++ ts))
            (in_left (choice_places gates) gs (ss ++ ts) (choices_in are))
            (in_right (sign_places sign.sign) gs (ss ++ ts) (in_left (sign_places sign.sign) ss ts (parallel_sign_in sign_is))))
            (in_right (behaviour_places b) gs (ss ++ ts) (in_right (behaviour_places b) ss ts (behaviour_in is)))),
        tt,
      )
  operands_in (inner_prefix {word = word} {semicolon = semicolon} {tokens = ts} {operands = bs} {signs = signs} word_is semicolon_is are) =
      prefixed_in (inner_action (place_of word)) [] bs signs (word ∷ semicolon ∷ ts) ts (inner_adds (place_of word))
      (nothing_within (word ∷ semicolon ∷ ts))
      (λ ps h. in_rest ps word (semicolon ∷ ts) (in_rest ps semicolon ts h)) (operands_in are)
  operands_in (guarding {left = left} {right = right} {arrow = arrow} {test_tokens = us} {tokens = ts} {test = test} {operands = bs}
      {signs = signs} left_is is right_is arrow_is are) =
      prefixed_in (guard (place_of left) test) (premiss_places test) bs signs (left ∷ (us ++ right ∷ arrow ∷ ts)) ts
      (guard_adds (place_of left) test)
      (in_rest (premiss_places test) left (us ++ right ∷ arrow ∷ ts) (in_left (premiss_places test) us (right ∷ arrow ∷ ts)
      (premiss_in is)))
      (λ ps h. in_rest ps left (us ++ right ∷ arrow ∷ ts)
      (in_right ps us (right ∷ arrow ∷ ts) (in_rest ps right (arrow ∷ ts) (in_rest ps arrow ts h)))) (operands_in are)
  operands_in {text = text} (acting {gate = gate} {semicolon = semicolon} {tokens = ts} {operands = bs} {signs = signs} gate_is semicolon_is
      are) =
      prefixed_in (action (place_of gate) (spelled text gate) [] None) (place_of gate ∷ []) bs signs (gate ∷ semicolon ∷ ts) ts
      (action_adds (place_of gate) (spelled text gate) [] None) (here_within gate (semicolon ∷ ts))
      (λ ps h. in_rest ps gate (semicolon ∷ ts) (in_rest ps semicolon ts h)) (operands_in are)
  operands_in {text = text} (offering {gate = gate} {semicolon = semicolon} {first_tokens = fs} {offer_tokens = os} {test_tokens = us}
      {tokens = ts} {first = first} {offers = groups} {test = test} {operands = bs} {signs = signs} gate_is one more test_is semicolon_is
      are) =
      prefixed_in (action (place_of gate) (spelled text gate) (first ++ flat_map (λ group. group) groups) test)
      (place_of gate ∷ (offers_places (first ++ flat_map (λ group. group) groups) ++ test_places test)) bs signs
      (gate ∷ (fs ++ (os ++ (us ++ semicolon ∷ ts)))) ts
      (action_adds (place_of gate) (spelled text gate) (first ++ flat_map (λ group. group) groups) test)
      (more_within _ (offers_places (first ++ flat_map (λ group. group) groups) ++ test_places test)
      (gate ∷ (fs ++ (os ++ (us ++ semicolon ∷ ts)))) (here_within gate (fs ++ (os ++ (us ++ semicolon ∷ ts))))
      (in_rest (offers_places (first ++ flat_map (λ group. group) groups) ++ test_places test) gate (fs ++ (os ++ (us ++ semicolon ∷ ts)))
      (both_within (offers_places (first ++ flat_map (λ group. group) groups)) (test_places test) (fs ++ (os ++ (us ++ semicolon ∷ ts)))
      (in_front (offers_places (first ++ flat_map (λ group. group) groups)) fs os (us ++ semicolon ∷ ts) (offers_in one more))
      (in_right (test_places test) fs (os ++ (us ++ semicolon ∷ ts)) (in_right (test_places test) os (us ++ semicolon ∷ ts)
      (in_left (test_places test) us (semicolon ∷ ts) (test_in test_is)))))))
      (λ ps h. in_rest ps gate (fs ++ (os ++ (us ++ semicolon ∷ ts)))
      (in_right ps fs (os ++ (us ++ semicolon ∷ ts)) (in_right ps os (us ++ semicolon ∷ ts)
      (in_right ps us (semicolon ∷ ts) (in_rest ps semicolon ts h))))) (operands_in are)
  operands_in (last_operand is) = (atom_in is, tt)
  operands_in (before_sign {tokens = ts} {sign_tokens = ss} {rest = rest} {operand = b} {sign = sign} {operands = bs} {signs = signs} is
      sign_is are) = (
        in_left (behaviour_places b) ts (ss ++ rest) (atom_in is),
        (
          in_right (sign_places sign.sign) ts (ss ++ rest) (in_left (sign_places sign.sign) ss rest (sign_in sign_is)),
          all_in_right (lined bs signs) ts (ss ++ rest) (all_in_right (lined bs signs) ss rest (operands_in are)),
        ),
      )

mutual
  pub behaviour_follows : {text : List ℕ} {tokens : List Token} {b : WrittenBehaviour} → IsBehaviourText text tokens b → Rises tokens
      → Follows b
  behaviour_follows (grouped_operands are grouped) h =
      let line = operands_line are h in grouped_follows grouped line.turn line.each line.between

  atom_follows : {text : List ℕ} {tokens : List Token} {b : WrittenBehaviour} → IsAtom text tokens b → Rises tokens → Follows b
  atom_follows (stopping is) h = tt
  atom_follows (exiting is are) h = exit_values_turn are h.1
  atom_follows (calling {name = name} {gate_tokens = gs} {tokens = ts} {gates = gates} {values = values} is gates_are values_are) h = (
    three_turn (place_of name ∷ []) (name_places gates) (joined_places (value_places values))
        (before_rest name (name_places gates) (gs ++ ts) h (in_left (name_places gates) gs ts (optional_gates_in gates_are)))
        (before_rest name (joined_places (value_places values)) (gs ++ ts) h
        (in_right (joined_places (value_places values)) gs ts (joined_within (value_places values) ts (values_in values_are))))
        (before_parts (name_places gates) (joined_places (value_places values)) gs ts h.1 (optional_gates_in gates_are)
        (joined_within (value_places values) ts (values_in values_are))),
    optional_gates_rise gates_are (rises_front gs ts h.1),
    values_turn values_are (rises_back gs ts h.1),
  )
  atom_follows (in_brackets {right = right} {tokens = ts} left_is is right_is) h = behaviour_follows is (rises_front ts (right ∷ []) h.1)

  operands_line : {text : List ℕ} {tokens : List Token} {bs : List WrittenBehaviour} {signs : List PlacedSign}
      → AreOperands text tokens bs signs → Rises tokens → Line bs signs
  operands_line (hiding {word = word} {in_ = in_} {name_tokens = ns} {tokens = ts} {gates = gates} {inside = b} word_is names in_is is) h =
      alone_line (hide (place_of word) gates b) (behaviour_follows is (rises_back ns (in_ ∷ ts) h.1).1)
  operands_line (letting {word = word} {in_ = in_} {value_tokens = vs} {tokens = ts} {values = values}
      {inside = b} word_is are in_is is) h =
      alone_line (let_be (place_of word) values b) (
        two_turn (let_places values) (behaviour_places b)
            (before_parts (let_places values) (behaviour_places b) vs (in_ ∷ ts) h.1 (let_in are)
            (in_rest (behaviour_places b) in_ ts (behaviour_in is))),
        let_follows are (rises_front vs (in_ ∷ ts) h.1),
        behaviour_follows is (rises_back vs (in_ ∷ ts) h.1).1,
      )
  operands_line (choosing_values {word = word} {sign = sign} {variable_tokens = vs} {tokens = ts} {variables = xs} {inside = b} word_is are
      sign_is is) h =
      alone_line (choose_value (place_of word) xs b) (
        two_turn (variable_places xs) (behaviour_places b)
            (before_parts (variable_places xs) (behaviour_places b) vs (sign ∷ ts) h.1 (variables_in are)
            (in_rest (behaviour_places b) sign ts (behaviour_in is))),
        variables_follow are (rises_front vs (sign ∷ ts) h.1),
        behaviour_follows is (rises_back vs (sign ∷ ts) h.1).1,
      )
  operands_line (choosing_gates {word = word} {sign = sign} {gate_tokens = gs} {tokens = ts} {gates = gates}
      {inside = b} word_is are sign_is
      is) h =
      alone_line (choose_gate (place_of word) gates b) (
        two_turn (choice_places gates) (behaviour_places b)
            (before_parts (choice_places gates) (behaviour_places b) gs (sign ∷ ts) h.1 (choices_in are)
            (in_rest (behaviour_places b) sign ts (behaviour_in is))),
        choices_follow are (rises_front gs (sign ∷ ts) h.1),
        behaviour_follows is (rises_back gs (sign ∷ ts) h.1).1,
      )
  operands_line (parallel_over_gates {word = word} {gate_tokens = gs} {sign_tokens = ss} {tokens = ts} {gates = gates} {sign = sign}
      {inside = b} word_is are sign_is is) h =
      alone_line (par_gate (place_of word) gates sign.sign b) (
        three_turn (choice_places gates) (sign_places sign.sign) (behaviour_places b)
            (before_parts (choice_places gates) (sign_places sign.sign) gs (ss ++ ts) h.1 (choices_in are)
            (in_left (sign_places sign.sign) ss ts (parallel_sign_in sign_is)))
            (before_parts (choice_places gates) (behaviour_places b) gs (ss ++ ts) h.1 (choices_in are)
            (in_right (behaviour_places b) ss ts (behaviour_in is)))
            (before_parts (sign_places sign.sign) (behaviour_places b) ss ts (rises_back gs (ss ++ ts) h.1) (parallel_sign_in sign_is)
            (behaviour_in is)),
        choices_follow are (rises_front gs (ss ++ ts) h.1),
        parallel_sign_follows sign_is (rises_front ss ts (rises_back gs (ss ++ ts) h.1)),
        behaviour_follows is (rises_back ss ts (rises_back gs (ss ++ ts) h.1)),
      )
  operands_line (inner_prefix {word = word} {semicolon = semicolon} {tokens = ts} {operands = bs}
      {signs = signs} word_is semicolon_is are) h =
      let line = operands_line are h.1.1 in
      record {
        turn = prefixed_turn (inner_action (place_of word)) [] bs signs ts (inner_adds (place_of word)) (λ qs within. nothing_before qs)
            (operands_in are) line.turn;
        each = prefixed_each (inner_action (place_of word)) bs signs ts (operands_in are) (λ b within follows. follows) line.each;
        between = line.between;
      }
  operands_line (guarding {left = left} {right = right} {arrow = arrow} {test_tokens = us} {tokens = ts} {test = test} {operands = bs}
      {signs = signs} left_is is right_is arrow_is are) h =
      let line = operands_line are (rises_back us (right ∷ arrow ∷ ts) h.1).1.1 in
      let after : (qs : List Place) → Within qs ts → StandWhollyBefore (premiss_places test) qs =
      λ qs within. before_parts (premiss_places test) qs us (right ∷ arrow ∷ ts) h.1 (premiss_in is)
      (in_rest qs right (arrow ∷ ts) (in_rest qs arrow ts within)) in
      record {
        turn = prefixed_turn (guard (place_of left) test) (premiss_places test) bs signs ts (guard_adds (place_of left) test) after
            (operands_in are) line.turn;
        each = prefixed_each (guard (place_of left) test) bs signs ts (operands_in are)
            (λ b within follows. (
              two_turn (premiss_places test) (behaviour_places b) (after
                  (behaviour_places b) within),
              follows,
            )) line.each;
        between = line.between;
      }
  operands_line {text = text} (acting {gate = gate} {semicolon = semicolon} {tokens = ts} {operands = bs}
      {signs = signs} gate_is semicolon_is
      are) h =
      let line = operands_line are h.1.1 in
      let after : (qs : List Place) → Within qs ts → StandWhollyBefore (place_of gate ∷ []) qs =
      λ qs within. before_rest gate qs (semicolon ∷ ts) h (in_rest qs semicolon ts within) in
      record {
        turn = prefixed_turn (action (place_of gate) (spelled text gate) [] None) (place_of gate ∷ []) bs signs ts
            (action_adds (place_of gate) (spelled text gate) [] None) after (operands_in are) line.turn;
        each = prefixed_each (action (place_of gate) (spelled text gate) [] None) bs signs ts (operands_in are)
            (λ b within follows. (
              action_follows (place_of gate) (spelled text gate) [] None b (nothing_after (place_of gate ∷ []))
                  (nothing_after (place_of gate ∷ [])) (after (behaviour_places b) within) (nothing_before [])
                  (nothing_before (behaviour_places b)) (nothing_before (behaviour_places b)),
              (tt, tt),
              follows,
            )) line.each;
        between = line.between;
      }
  operands_line {text = text} (offering {gate = gate} {semicolon = semicolon} {first_tokens = fs} {offer_tokens = os} {test_tokens = us}
      {tokens = ts} {first = first} {offers = groups} {test = test} {operands = bs} {signs = signs} gate_is one more test_is semicolon_is
      are) h =
      let back = rises_back os (us ++ semicolon ∷ ts) (rises_back fs (os ++ (us ++ semicolon ∷ ts)) h.1) in
      let line = operands_line are (rises_back us (semicolon ∷ ts) back).1 in
      offering_line text gate semicolon fs os us ts (first ++ flat_map (λ group. group) groups) test bs signs h (offers_in one more)
      (offers_follow_on one more (rises_two fs os (us ++ semicolon ∷ ts) h.1)) (test_in test_is) (operands_in are) line
  operands_line (last_operand {operand = b} is) h = alone_line b (atom_follows is h)
  operands_line (before_sign {tokens = ts} {sign_tokens = ss} {rest = rest} {operand = b} {sign = sign} {operands = bs} {signs = signs} is
      sign_is are) h =
      let back = rises_back ts (ss ++ rest) h in
      let line = operands_line are (rises_back ss rest back) in
      record {
        turn = (
          before_all (behaviour_places b) (sign_places sign.sign ∷ lined bs signs) ts (ss ++ rest) h (atom_in is)
              (in_left (sign_places sign.sign) ss rest (sign_in sign_is), all_in_right (lined bs signs) ss rest (operands_in are)),
          (before_all (sign_places sign.sign) (lined bs signs) ss rest back (sign_in sign_is) (operands_in are), line.turn),
        );
        each = (atom_follows is (rises_front ts (ss ++ rest) h), line.each);
        between = (sign_follows sign_is (rises_front ss rest back), line.between);
      }
