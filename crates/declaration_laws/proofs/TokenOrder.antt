-- Tokens whose places rise, and places of tokens.
use Rattle.std.proofs.Common.{◌≡◌, List, [], ◌∷◌, ◌++◌, true, sym, subst, inl, inr}
use Rattle.std.specs.Prelude.{◌⊎◌}
use Rattle.scope_parts.proofs.OrderLemmas.{in_either, before_both}
use Rattle.lotos_base.specs.Equation.{Place}
use Rattle.lotos_lexer.specs.declared.tokens.Token.{Token}
use Rattle.lotos_rows.specs.Names.{place_of}
use Rattle.scope_parts.specs.ScopeFault.{stands_before}
use Rattle.behaviour_semantics.specs.WellFormed.{Every}
use Rattle.scope_parts.specs.Order.{IsOneOfPlaces, StandWhollyBefore, Rising, joined_places}

-- The place is that of one of the tokens.
abbrev pub At : Place → List Token → Type 0
At p [] = ⊥
At p (t ∷ ts) = (p ≡ place_of t) ⊎ At p ts

-- Each token stands before those behind it.
abbrev pub Rises : List Token → Type 0
Rises [] = Unit {0}
Rises (t ∷ ts) = ((q : Place) → At q ts → stands_before (place_of t) q ≡ true) × Rises ts

-- Each of the places is that of one of the tokens.
abbrev pub Within : List Place → List Token → Type 0
Within ps ts = (p : Place) → IsOneOfPlaces p ps → At p ts

-- ---- parts of lists of tokens

pub at_left : (xs ys : List Token) (p : Place) → At p xs → At p (xs ++ ys)
at_left [] ys p at = absurd at
at_left (x ∷ xs) ys p (inl same) = inl same
at_left (x ∷ xs) ys p (inr at) = inr (at_left xs ys p at)

pub at_right : (xs ys : List Token) (p : Place) → At p ys → At p (xs ++ ys)
at_right [] ys p at = at
at_right (x ∷ xs) ys p at = inr (at_right xs ys p at)

pub rises_front : (xs ys : List Token) → Rises (xs ++ ys) → Rises xs
rises_front [] ys h = tt
rises_front (x ∷ xs) ys h = ((λ q at. h.0 q (at_left xs ys q at)), rises_front xs ys h.1)

pub rises_back : (xs ys : List Token) → Rises (xs ++ ys) → Rises ys
rises_back [] ys h = h
rises_back (x ∷ xs) ys h = rises_back xs ys h.1

apart : (xs ys : List Token) → Rises (xs ++ ys) → (p q : Place) → At p xs → At q ys → stands_before p q ≡ true
apart [] ys h p q one other = absurd one
apart (x ∷ xs) ys h p q (inl same) other = subst (λ (y : Place). stands_before y q ≡ true) (sym same) (h.0 q (at_right xs ys q other))
apart (x ∷ xs) ys h p q (inr one) other = apart xs ys h.1 p q one other

-- ---- places of parts

pub nothing_within : (ts : List Token) → Within [] ts
nothing_within ts p at = absurd at

pub here_within : (t : Token) (ts : List Token) → Within (place_of t ∷ []) (t ∷ ts)
here_within t ts p (inl same) = inl same
here_within t ts p (inr at) = absurd at

pub in_left : (ps : List Place) (xs ys : List Token) → Within ps xs → Within ps (xs ++ ys)
in_left ps xs ys h p at = at_left xs ys p (h p at)

pub in_right : (ps : List Place) (xs ys : List Token) → Within ps ys → Within ps (xs ++ ys)
in_right ps xs ys h p at = at_right xs ys p (h p at)

pub in_rest : (ps : List Place) (t : Token) (ts : List Token) → Within ps ts → Within ps (t ∷ ts)
in_rest ps t ts h p at = inr (h p at)

pub both_within : (ps qs : List Place) (ts : List Token) → Within ps ts → Within qs ts → Within (ps ++ qs) ts
both_within ps qs ts one other p at = go (in_either p ps qs at)
  where
    go : IsOneOfPlaces p ps ⊎ IsOneOfPlaces p qs → At p ts
    go (inl here) = one p here
    go (inr there) = other p there

pub more_within : (q : Place) (ps : List Place) (ts : List Token) → Within (q ∷ []) ts → Within ps ts → Within (q ∷ ps) ts
more_within q ps ts one other p (inl same) = one p (inl same)
more_within q ps ts one other p (inr at) = other p at

-- ---- the order of places

-- what stands in two parts, one behind the other
pub before_parts : (ps qs : List Place) (xs ys : List Token) → Rises (xs ++ ys) → Within ps xs → Within qs ys → StandWhollyBefore ps qs
before_parts ps qs xs ys h one other p q here there = apart xs ys h p q (one p here) (other q there)

pub before_first : (t : Token) (qs : List Place) (ts : List Token) → Rises (t ∷ ts) → Within qs ts → StandWhollyBefore (place_of t ∷ []) qs
before_first t qs ts h other p q (inl same) there =
    subst (λ (y : Place). stands_before y q ≡ true) (sym same) (h.0 q (other q there))
before_first t qs ts h other p q (inr here) there = absurd here

pub first_before : (p : Place) (ps rs : List Place) → StandWhollyBefore (p ∷ []) rs → StandWhollyBefore ps rs
    → StandWhollyBefore (p ∷ ps) rs
first_before p ps rs one other x q (inl same) there = one x q (inl same) there
first_before p ps rs one other x q (inr at) there = other x q at there

pub nothing_after : (ps : List Place) → StandWhollyBefore ps []
nothing_after ps p q here there = absurd there

pub nothing_before : (ps : List Place) → StandWhollyBefore [] ps
nothing_before ps p q here there = absurd here

pub rising_both : (ps qs : List Place) → Rising ps → Rising qs → StandWhollyBefore ps qs → Rising (ps ++ qs)
rising_both [] qs one other h = other
rising_both (p ∷ ps) qs one other h = (
  before_both (p ∷ []) ps qs one.0 (λ x q here there. go x q here there),
  rising_both ps qs one.1 other (λ x q here there. h x q (inr here) there),
)
  where
    go : (x q : Place) → IsOneOfPlaces x (p ∷ []) → IsOneOfPlaces q qs → stands_before x q ≡ true
    go x q (inl same) there = h x q (inl same) there
    go x q (inr at) there = absurd at

-- ---- two parts before a third one

at_front : (xs ys zs : List Token) (p : Place) → At p (xs ++ ys) → At p (xs ++ (ys ++ zs))
at_front [] ys zs p at = at_left ys zs p at
at_front (x ∷ xs) ys zs p (inl same) = inl same
at_front (x ∷ xs) ys zs p (inr at) = inr (at_front xs ys zs p at)

pub in_front : (ps : List Place) (xs ys zs : List Token) → Within ps (xs ++ ys) → Within ps (xs ++ (ys ++ zs))
in_front ps xs ys zs h p at = at_front xs ys zs p (h p at)

pub rises_two : (xs ys zs : List Token) → Rises (xs ++ (ys ++ zs)) → Rises (xs ++ ys)
rises_two [] ys zs h = rises_front ys zs h
rises_two (x ∷ xs) ys zs h = ((λ q at. h.0 q (at_front xs ys zs q at)), rises_two xs ys zs h.1)

apart_third : (xs ys zs : List Token) → Rises (xs ++ (ys ++ zs)) → (p q : Place) → At p (xs ++ ys) → At q zs → stands_before p q ≡ true
apart_third [] ys zs h p q one other = apart ys zs h p q one other
apart_third (x ∷ xs) ys zs h p q (inl same) other =
    subst (λ (y : Place). stands_before y q ≡ true) (sym same) (h.0 q (at_right xs (ys ++ zs) q (at_right ys zs q other)))
apart_third (x ∷ xs) ys zs h p q (inr one) other = apart_third xs ys zs h.1 p q one other

pub before_third : (ps qs : List Place) (xs ys zs : List Token) → Rises (xs ++ (ys ++ zs)) → Within ps (xs ++ ys) → Within qs zs
    → StandWhollyBefore ps qs
before_third ps qs xs ys zs h one other p q here there = apart_third xs ys zs h p q (one p here) (other q there)

-- ---- lists of parts

-- each of the parts is within the tokens
abbrev pub AllWithin : List (List Place) → List Token → Type 0
AllWithin pss ts = Every (λ (ps : List Place). Within ps ts) pss

pub joined_within : (pss : List (List Place)) (ts : List Token) → AllWithin pss ts → Within (joined_places pss) ts
joined_within [] ts all = nothing_within ts
joined_within (ps ∷ pss) ts all = both_within ps (joined_places pss) ts all.0 (joined_within pss ts all.1)

pub all_in_left : (pss : List (List Place)) (xs ys : List Token) → AllWithin pss xs → AllWithin pss (xs ++ ys)
all_in_left [] xs ys all = tt
all_in_left (ps ∷ pss) xs ys all = (in_left ps xs ys all.0, all_in_left pss xs ys all.1)

pub all_in_right : (pss : List (List Place)) (xs ys : List Token) → AllWithin pss ys → AllWithin pss (xs ++ ys)
all_in_right [] xs ys all = tt
all_in_right (ps ∷ pss) xs ys all = (in_right ps xs ys all.0, all_in_right pss xs ys all.1)

pub all_in_rest : (pss : List (List Place)) (t : Token) (ts : List Token) → AllWithin pss ts → AllWithin pss (t ∷ ts)
all_in_rest [] t ts all = tt
all_in_rest (ps ∷ pss) t ts all = (in_rest ps t ts all.0, all_in_rest pss t ts all.1)

pub before_all : (ps : List Place) (pss : List (List Place)) (xs ys : List Token) → Rises (xs ++ ys) → Within ps xs → AllWithin pss ys
    → Every (StandWhollyBefore ps) pss
before_all ps [] xs ys h one all = tt
before_all ps (qs ∷ pss) xs ys h one all = (before_parts ps qs xs ys h one all.0, before_all ps pss xs ys h one all.1)
