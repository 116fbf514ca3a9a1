-- The least rule that may overlap a term.
use Rattle.std.proofs.Common.{◌≡◌, ◌≤◌, ◌<◌, ◌+◌, Bor, ltb, ℕ, zero, suc, List, [], ◌∷◌, ◌++◌, length, get_or, Bool, true, false, nat_eq, refl, ap, sym, ◌∙◌, subst, inl, inr, arith}
use Rattle.std.specs.List.Sorted.{IsNonDecreasing, IsPartitionPoint, IsPartitionedBy}
use Rattle.std.specs.Option.{option_map}
use Rattle.std.specs.Cmp.Derive.{both_true}
use Rattle.std.specs.Prelude.{◌⊎◌, ◌||◌, Some, None, Option, IfSome, is_some, slice_get, nat_lt, nat_le, if◌then◌else◌}
use Rattle.std.proofs.lemmas.Option.{same_Some}
use Rattle.std.proofs.lemmas.Bool.{leb-true, leb-false, ltb-true, ltb-false, and_parts, or_cases}
use Rattle.lotos_base.specs.Term.{Term, variable, node}
use Rattle.rewriting_theory.specs.Rule.{Rule}
use Rattle.rewriting_theory.proofs.PlaceListLemmas.{IsIn, in_left, in_right, in_either}
use Rattle.path_order.specs.RuleHead.{has_head, headed}
use Rattle.critical_pairs.specs.NodePlaces.{PlaceOfNode}
use Rattle.critical_pairs.specs.Candidates.{lesser_of, considered, least_from, place_least, all_least}
use Rattle.term_store.specs.HandedOn.{first_head, is_missing, is_head_number, is_open, has_first, numbered_where, may_overlap}
use Rattle.term_store.proofs.HandedOn.{headed_where}

-- ---- Rules that pass a test

pub where_complete : (test : Term → Bool) (k : ℕ) (rules : List Rule) (j : ℕ) (rule : Rule) → slice_get rules j ≡ Some rule
    → test rule.left ≡ true
    → IsIn (k + j) (numbered_where test k rules)
where_complete test k [] j rule at e = let none : None ≡ Some rule = at in cc
where_complete test k (first ∷ rules) zero rule at e =
    in_left (k + 0) (if test first.left then k ∷ [] else []) (numbered_where test (suc k) rules)
    (go (test first.left) (ap (λ (r : Rule). test r.left) (same_Some first rule at) ∙ e))
  where
    go : (b : Bool) → b ≡ true → IsIn (k + 0) (if b then k ∷ [] else [])
    go true passes = inl (omega arith)
    go false passes = cc
where_complete test k (first ∷ rules) (suc j) rule at e =
    in_right (k + suc j) (if test first.left then k ∷ [] else []) (numbered_where test (suc k) rules)
    (subst (λ (n : ℕ). IsIn n (numbered_where test (suc k) rules)) (omega arith) (where_complete test (suc k) rules j rule at e))

where_within : (test : Term → Bool) (k : ℕ) (rules : List Rule) (n : ℕ) → IsIn n (numbered_where test k rules) → n < k + length rules
where_within test k [] n is = absurd is
where_within test k (first ∷ rules) n is =
    go (in_either n (if test first.left then k ∷ [] else []) (numbered_where test (suc k) rules) is)
    (λ at. where_within test (suc k) rules n at)
  where
    here : (b : Bool) → IsIn n (if b then k ∷ [] else []) → k ≡ n
    here true (inl same) = same
    here true (inr none) = absurd none
    here false none = absurd none

    go : IsIn n (if test first.left then k ∷ [] else []) ⊎ IsIn n (numbered_where test (suc k) rules)
        → (IsIn n (numbered_where test (suc k) rules) → n < suc k + length rules) → n < k + suc (length rules)
    go (inl at) rest = let same = here (test first.left) at in omega (arith, same)
    go (inr at) rest = let less = rest at in omega (arith, less)

-- ---- Their numbers rise

-- each number of the list is at least this one
abbrev pub AreAtLeast : ℕ → List ℕ → Type 0
AreAtLeast least ns = (n : ℕ) → IsIn n ns → least ≤ n

-- each number of the list is at most those behind it
abbrev pub Rises : List ℕ → Type 0
Rises [] = Unit {0}
Rises (n ∷ ns) = AreAtLeast n ns × Rises ns

where_above : (test : Term → Bool) (k : ℕ) (rules : List Rule) → AreAtLeast k (numbered_where test k rules)
where_above test k [] n is = absurd is
where_above test k (first ∷ rules) n is = go (test first.left) is (λ at. where_above test (suc k) rules n at)
  where
    go : (b : Bool) → IsIn n ((if b then k ∷ [] else []) ++ numbered_where test (suc k) rules)
        → (IsIn n (numbered_where test (suc k) rules) → suc k ≤ n) → k ≤ n
    go true (inl same) rest = omega (arith, same)
    go true (inr at) rest = let more = rest at in omega (arith, more)
    go false at rest = let more = rest at in omega (arith, more)

where_rises : (test : Term → Bool) (k : ℕ) (rules : List Rule) → Rises (numbered_where test k rules)
where_rises test k [] = tt
where_rises test k (first ∷ rules) = go (test first.left) (where_rises test (suc k) rules)
  where
    go : (b : Bool) → Rises (numbered_where test (suc k) rules)
        → Rises ((if b then k ∷ [] else []) ++ numbered_where test (suc k) rules)
    go true rest = ((λ n at. let more = where_above test (suc k) rules n at in omega (arith, more)), rest)
    go false rest = rest

at_place : (ns : List ℕ) (j d : ℕ) → j < length ns → IsIn (get_or ns j d) ns
at_place [] j d less = absurd (omega (arith, less))
at_place (n ∷ ns) zero d less = inl refl
at_place (n ∷ ns) (suc j) d less = inr (at_place ns j d (omega (arith, less)))

rises_by_places : (ns : List ℕ) → Rises ns → IsNonDecreasing ns
rises_by_places [] up i j d below less = absurd (omega (arith, less))
rises_by_places (n ∷ ns) up zero zero d below less = omega arith
rises_by_places (n ∷ ns) up zero (suc j) d below less = up.0 (get_or ns j d) (at_place ns j d (omega (arith, less)))
rises_by_places (n ∷ ns) up (suc i) zero d below less = absurd (omega (arith, below))
rises_by_places (n ∷ ns) up (suc i) (suc j) d below less =
    rises_by_places ns up.1 i j d (omega (arith, below)) (omega (arith, less))

-- the numbers of the rules that pass a test rise, and so do those of the rules with an operation at their heads
pub numbers_rise : (test : Term → Bool) (rules : List Rule) → IsNonDecreasing (numbered_where test 0 rules)
numbers_rise test rules = rises_by_places (numbered_where test 0 rules) (where_rises test 0 rules)

pub heads_rise : (f : ℕ) (rules : List Rule) → IsNonDecreasing (headed f rules)
heads_rise f rules = subst IsNonDecreasing (sym (headed_where f 0 rules)) (numbers_rise (has_head f) rules)

-- ---- Where the numbers rise, the first one that is not below is the least

-- the lesser one of what is at a place, if something is, and of the one known before
abbrev pub lesser_at : Option ℕ → Option ℕ → Option ℕ
lesser_at known None = known
lesser_at known (Some n) = lesser_of known n

kept_by : (from best n : ℕ) → best ≤ n → considered from (Some best) n ≡ Some best
kept_by from best n less = go (nat_lt n from) (nat_le best n) refl
  where
    go : (a b : Bool) → nat_le best n ≡ b → (if a then Some best else Some (if b then best else n)) ≡ Some best
    go true b e = refl
    go false true e = refl
    go false false e = let more : n < best = leb-false best n e in absurd (omega (arith, more, less))

stays_least : (from best : ℕ) (ns : List ℕ) → AreAtLeast best ns → least_from from (Some best) ns ≡ Some best
stays_least from best [] above = refl
stays_least from best (n ∷ ns) above =
    ap (λ (o : Option ℕ). least_from from o ns) (kept_by from best n (above n (inl refl)))
    ∙ stays_least from best ns (λ m at. above m (inr at))

lesser_stays : (from : ℕ) (known : Option ℕ) (n : ℕ) (ns : List ℕ) → AreAtLeast n ns
    → least_from from (lesser_of known n) ns ≡ lesser_of known n
lesser_stays from None n ns above = stays_least from n ns above
lesser_stays from (Some best) n ns above = go (nat_le best n) refl
  where
    go : (b : Bool) → nat_le best n ≡ b
        → least_from from (Some (if b then best else n)) ns ≡ Some (if b then best else n)
    go true e =
        let less : best ≤ n = leb-true best n e in
        stays_least from best ns (λ m at. let more = above m at in omega (arith, less, more))
    go false e = stays_least from n ns above

taken : (from : ℕ) (known : Option ℕ) (n : ℕ) → nat_lt n from ≡ false → considered from known n ≡ lesser_of known n
taken from known n e = ap (λ (b : Bool). if b then known else lesser_of known n) e

passed : (from : ℕ) (known : Option ℕ) (n : ℕ) → nat_lt n from ≡ true → considered from known n ≡ known
passed from known n e = ap (λ (b : Bool). if b then known else lesser_of known n) e

at_point : (from : ℕ) (known : Option ℕ) (ns : List ℕ) (p : ℕ) → Rises ns
    → ((k d : ℕ) → k < p → k < length ns → nat_lt (get_or ns k d) from ≡ true)
    → ((k d : ℕ) → p ≤ k → k < length ns → nat_lt (get_or ns k d) from ≡ false)
    → lesser_at known (slice_get ns p) ≡ least_from from known ns
at_point from known [] p up before after = refl
at_point from known (n ∷ ns) zero up before after =
    sym (ap (λ (o : Option ℕ). least_from from o ns) (taken from known n (after 0 0 (omega arith) (omega arith)))
    ∙ lesser_stays from known n ns up.0)
at_point from known (n ∷ ns) (suc p) up before after =
    at_point from known ns p up.1 (λ k d less within. before (suc k) d (omega (arith, less)) (omega (arith, within)))
    (λ k d above within. after (suc k) d (omega (arith, above)) (omega (arith, within)))
    ∙ sym (ap (λ (o : Option ℕ). least_from from o ns) (passed from known n (before 0 0 (omega arith) (omega arith))))

rises_back : (ns : List ℕ) → IsNonDecreasing ns → Rises ns
rises_back [] up = tt
rises_back (n ∷ ns) up = (above, rises_back ns (λ i j d below less. up (suc i) (suc j) d (omega (arith, below)) (omega (arith, less))))
  where
    place_of : (m : ℕ) (ms : List ℕ) → IsIn m ms → (j : ℕ) × (j < length ms) × (get_or ms j 0 ≡ m)
    place_of m [] at = absurd at
    place_of m (k ∷ ms) (inl same) = (0, omega arith, same)
    place_of m (k ∷ ms) (inr at) = let there = place_of m ms at in (suc there.0, omega (arith, there.1), there.2)

    above : AreAtLeast n ns
    above m at =
        let there = place_of m ns at in
        subst (λ (k : ℕ). n ≤ k) there.2 (up 0 (suc there.0) 0 (omega arith) (omega (arith, there.1)))

-- so a search for that one finds the least
least_found : (from : ℕ) (known : Option ℕ) (ns : List ℕ) (p : ℕ) → IsNonDecreasing ns
    → IsPartitionPoint (λ (n : ℕ). nat_lt n from ≡ true) (λ (n : ℕ). nat_lt n from ≡ false) ns p
    → lesser_at known (slice_get ns p) ≡ least_from from known ns
least_found from known ns p up point =
    at_point from known ns p (rises_back ns up) (λ k d less within. point.0 k d (omega arith) less)
    (λ k d above within. point.1 k d above within)

-- numbers that rise are parted by a bound
pub parted : (ns : List ℕ) (from : ℕ) → IsNonDecreasing ns → IsPartitionedBy (λ (n : ℕ). nat_lt n from) ns
parted ns from up i j d below less e = go (nat_lt (get_or ns i d) from) refl
  where
    go : (b : Bool) → nat_lt (get_or ns i d) from ≡ b → b ≡ true
    go true test = refl
    go false test =
        let more : from ≤ get_or ns i d = ltb-false (get_or ns i d) from test in
        let first : get_or ns j d < from = ltb-true (get_or ns j d) from e in
        let rise : get_or ns i d ≤ get_or ns j d = up i j d below less in
        absurd (omega (arith, more, first, rise))

-- what a look-up gives
looked : (ns : List ℕ) (p : ℕ) (r : Option (Bor ℕ)) → is_some r ≡ ltb p (length ns) → IfSome r (λ x. x.now ≡ get_or ns p x.now)
    → option_map (λ (x : Bor ℕ). x.now) r ≡ slice_get ns p
looked ns p None some is = sym (past ns p (ltb-false p (length ns) (sym some)))
  where
    past : (ms : List ℕ) (k : ℕ) → length ms ≤ k → slice_get ms k ≡ None
    past [] k h = refl
    past (m ∷ ms) zero h = absurd (omega (arith, h))
    past (m ∷ ms) (suc k) h = past ms k (omega (arith, h))
looked ns p (Some x) some is = sym (within ns p (ltb-true p (length ns) (sym some)) is)
  where
    within : (ms : List ℕ) (k : ℕ) → k < length ms → x.now ≡ get_or ms k x.now → slice_get ms k ≡ Some x.now
    within [] k h e = absurd (omega (arith, h))
    within (m ∷ ms) zero h e = ap (λ (n : ℕ). Some n) (sym e)
    within (m ∷ ms) (suc k) h e = within ms k (omega (arith, h)) e

-- the answer of the search
pub least_answer : (from : ℕ) (known : Option ℕ) (ns : List ℕ) (p : ℕ) (r : Option (Bor ℕ)) → IsNonDecreasing ns
    → IsPartitionPoint (λ (n : ℕ). nat_lt n from ≡ true) (λ (n : ℕ). nat_lt n from ≡ false) ns p
    → is_some r ≡ ltb p (length ns) → IfSome r (λ x. x.now ≡ get_or ns p x.now)
    → lesser_at known (option_map (λ (x : Bor ℕ). x.now) r) ≡ least_from from known ns
least_answer from known ns p r up point some is =
    ap (lesser_at known) (looked ns p r some is) ∙ least_found from known ns p up point

-- ---- The least number

-- there is one, and it is no greater than this one
abbrev pub IsAtMost : Option ℕ → ℕ → Type 0
IsAtMost None j = ⊥
IsAtMost (Some best) j = best ≤ j

-- where there is one, it has the property
abbrev pub HasIt : (ℕ → Type 0) → Option ℕ → Type 0
HasIt P None = Unit {0}
HasIt P (Some best) = P best

lesser_keeps : (known : Option ℕ) (n j : ℕ) → IsAtMost known j → IsAtMost (lesser_of known n) j
lesser_keeps None n j is = absurd is
lesser_keeps (Some best) n j is = go (nat_le best n) refl
  where
    go : (b : Bool) → nat_le best n ≡ b → (if b then best else n) ≤ j
    go true e = is
    go false e = let less : n < best = leb-false best n e in omega (arith, less, is)

lesser_finds : (known : Option ℕ) (n : ℕ) → IsAtMost (lesser_of known n) n
lesser_finds None n = omega arith
lesser_finds (Some best) n = go (nat_le best n) refl
  where
    go : (b : Bool) → nat_le best n ≡ b → (if b then best else n) ≤ n
    go true e = leb-true best n e
    go false e = omega arith

lesser_has : (P : ℕ → Type 0) (known : Option ℕ) (n : ℕ) → HasIt P known → P n → HasIt P (lesser_of known n)
lesser_has P None n has p = p
lesser_has P (Some best) n has p = go (nat_le best n)
  where
    go : (b : Bool) → P (if b then best else n)
    go true = has
    go false = p

considered_keeps : (from : ℕ) (known : Option ℕ) (n j : ℕ) → IsAtMost known j → IsAtMost (considered from known n) j
considered_keeps from known n j is = go (nat_lt n from)
  where
    go : (b : Bool) → IsAtMost (if b then known else lesser_of known n) j
    go true = is
    go false = lesser_keeps known n j is

considered_finds : (from : ℕ) (known : Option ℕ) (n : ℕ) → from ≤ n → IsAtMost (considered from known n) n
considered_finds from known n above = go (nat_lt n from) refl
  where
    go : (b : Bool) → nat_lt n from ≡ b → IsAtMost (if b then known else lesser_of known n) n
    go true e = let less : n < from = ltb-true n from e in absurd (omega (arith, less, above))
    go false e = lesser_finds known n

considered_has : (P : ℕ → Type 0) (from : ℕ) (known : Option ℕ) (n : ℕ) → HasIt P known → (from ≤ n → P n)
    → HasIt P (considered from known n)
considered_has P from known n has p = go (nat_lt n from) refl
  where
    go : (b : Bool) → nat_lt n from ≡ b → HasIt P (if b then known else lesser_of known n)
    go true e = has
    go false e = lesser_has P known n has (p (ltb-false n from e))

least_keeps : (from : ℕ) (known : Option ℕ) (ns : List ℕ) (j : ℕ) → IsAtMost known j → IsAtMost (least_from from known ns) j
least_keeps from known [] j is = is
least_keeps from known (n ∷ ns) j is = least_keeps from (considered from known n) ns j (considered_keeps from known n j is)

least_finds : (from : ℕ) (known : Option ℕ) (ns : List ℕ) (j : ℕ) → IsIn j ns → from ≤ j → IsAtMost (least_from from known ns) j
least_finds from known [] j is above = absurd is
least_finds from known (n ∷ ns) j (inl same) above =
    least_keeps from (considered from known n) ns j
    (subst (λ (k : ℕ). IsAtMost (considered from known n) k) same
    (considered_finds from known n (subst (λ (k : ℕ). from ≤ k) (sym same) above)))
least_finds from known (n ∷ ns) j (inr at) above = least_finds from (considered from known n) ns j at above

least_has : (P : ℕ → Type 0) (from : ℕ) (known : Option ℕ) (ns : List ℕ) → HasIt P known
    → ((n : ℕ) → IsIn n ns → from ≤ n → P n) → HasIt P (least_from from known ns)
least_has P from known [] has each = has
least_has P from known (n ∷ ns) has each =
    least_has P from (considered from known n) ns (considered_has P from known n has (each n (inl refl))) (λ m at. each m (inr at))

place_least_keeps : (rules : List Rule) (from : ℕ) (known : Option ℕ) (head : ℕ) (first : Option ℕ) (j : ℕ) → IsAtMost known j
    → IsAtMost (place_least rules from known head first) j
place_least_keeps rules from known head None j is = least_keeps from known (headed head rules) j is
place_least_keeps rules from known head (Some g) j is =
    least_keeps from (least_from from known (numbered_where (is_open head) 0 rules)) (numbered_where (has_first g) 0 rules) j
    (least_keeps from known (numbered_where (is_open head) 0 rules) j is)

listed_at : (test : Term → Bool) (rules : List Rule) (j : ℕ) (rule : Rule) → slice_get rules j ≡ Some rule → test rule.left ≡ true
    → IsIn j (numbered_where test 0 rules)
listed_at test rules j rule at e =
    subst (λ (n : ℕ). IsIn n (numbered_where test 0 rules)) (omega arith) (where_complete test 0 rules j rule at e)

place_least_finds : (rules : List Rule) (from : ℕ) (known : Option ℕ) (head : ℕ) (first : Option ℕ) (j : ℕ) (rule : Rule)
    → slice_get rules j ≡ Some rule → may_overlap head first rule.left ≡ true → from ≤ j
    → IsAtMost (place_least rules from known head first) j
place_least_finds rules from known head first j rule at may above = go rule.left refl first may
  where
    go : (t : Term) → rule.left ≡ t → (o : Option ℕ) → may_overlap head o t ≡ true → IsAtMost (place_least rules from known head o) j
    go (variable n s) is o e = cc
    go (node h ts) is None e =
        let parts = and_parts (nat_eq h head) true e in
        least_finds from known (headed head rules) j
        (subst (λ (ns : List ℕ). IsIn j ns) (sym (headed_where head 0 rules))
        (listed_at (has_head head) rules j rule at (ap (has_head head) is ∙ parts.0))) above
    go (node h ts) is (Some g) e =
        let parts = and_parts (nat_eq h head) (is_missing (first_head ts) || is_head_number g (first_head ts)) e in
        either parts.0 (or_cases (is_missing (first_head ts)) (is_head_number g (first_head ts)) parts.1)
      where
        either : nat_eq h head ≡ true → (is_missing (first_head ts) ≡ true) ⊎ (is_head_number g (first_head ts) ≡ true)
            → IsAtMost (place_least rules from known head (Some g)) j
        either same (inl missing) =
            least_keeps from (least_from from known (numbered_where (is_open head) 0 rules)) (numbered_where (has_first g) 0 rules) j
            (least_finds from known (numbered_where (is_open head) 0 rules) j
            (listed_at (is_open head) rules j rule at (ap (is_open head) is ∙ both_true same missing)) above)
        either same (inr begins) =
            least_finds from (least_from from known (numbered_where (is_open head) 0 rules)) (numbered_where (has_first g) 0 rules) j
            (listed_at (has_first g) rules j rule at (ap (has_first g) is ∙ begins)) above

all_least_keeps : (rules : List Rule) (from : ℕ) (known : Option ℕ) (places : List PlaceOfNode) (j : ℕ) → IsAtMost known j
    → IsAtMost (all_least rules from known places) j
all_least_keeps rules from known [] j is = is
all_least_keeps rules from known (place ∷ places) j is =
    all_least_keeps rules from (place_least rules from known place.head place.first) places j
    (place_least_keeps rules from known place.head place.first j is)

-- it is no greater than any rule that may overlap
pub all_least_finds : (rules : List Rule) (from : ℕ) (known : Option ℕ) (places : List PlaceOfNode) (j : ℕ) (place : PlaceOfNode)
    (rule : Rule)
    → IsIn place places → slice_get rules j ≡ Some rule → may_overlap place.head place.first rule.left ≡ true → from ≤ j
    → IsAtMost (all_least rules from known places) j
all_least_finds rules from known [] j place rule is at may above = absurd is
all_least_finds rules from known (first ∷ places) j place rule (inl same) at may above =
    all_least_keeps rules from (place_least rules from known first.head first.first) places j
    (place_least_finds rules from known first.head first.first j rule at
    (subst (λ (p : PlaceOfNode). may_overlap p.head p.first rule.left ≡ true) (sym same) may) above)
all_least_finds rules from known (first ∷ places) j place rule (inr later) at may above =
    all_least_finds rules from (place_least rules from known first.head first.first) places j place rule later at may above

-- it is the number of a rule, from this one on
where_has : (test : Term → Bool) (rules : List Rule) (from : ℕ) (known : Option ℕ)
    → HasIt (λ n. (from ≤ n) × (n < length rules)) known
    → HasIt (λ n. (from ≤ n) × (n < length rules)) (least_from from known (numbered_where test 0 rules))
where_has test rules from known has =
    least_has (λ n. (from ≤ n) × (n < length rules)) from known (numbered_where test 0 rules) has
    (λ n at above. let within : n < 0 + length rules = where_within test 0 rules n at in (above, omega (arith, within)))

place_least_has : (rules : List Rule) (from : ℕ) (known : Option ℕ) (head : ℕ) (first : Option ℕ)
    → HasIt (λ n. (from ≤ n) × (n < length rules)) known
    → HasIt (λ n. (from ≤ n) × (n < length rules)) (place_least rules from known head first)
place_least_has rules from known head None has =
    subst (λ (ns : List ℕ). HasIt (λ n. (from ≤ n) × (n < length rules)) (least_from from known ns)) (sym (headed_where head 0 rules))
    (where_has (has_head head) rules from known has)
place_least_has rules from known head (Some g) has =
    where_has (has_first g) rules from (least_from from known (numbered_where (is_open head) 0 rules))
    (where_has (is_open head) rules from known has)

pub all_least_has : (rules : List Rule) (from : ℕ) (known : Option ℕ) (places : List PlaceOfNode)
    → HasIt (λ n. (from ≤ n) × (n < length rules)) known → HasIt (λ n. (from ≤ n) × (n < length rules)) (all_least rules from known places)
all_least_has rules from known [] has = has
all_least_has rules from known (place ∷ places) has =
    all_least_has rules from (place_least rules from known place.head place.first) places
    (place_least_has rules from known place.head place.first has)
