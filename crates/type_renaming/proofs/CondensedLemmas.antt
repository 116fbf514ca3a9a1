-- What came so far, condensed to one member of each kind: what a further member clashes with stays the same.
use Rattle.std.proofs.Common.{◌≡◌, ℕ, suc, Bool, true, false, List, [], ◌∷◌, ◌++◌, refl, ap, sym, ◌∙◌}
use Rattle.std.specs.Prelude.{Option, Some, None, ◌||◌, ◌&&◌, not, nat_eq, if◌then◌else◌}
use Rattle.std.specs.List.{list_any}
use Rattle.std.specs.Str.{bytes_eq}
use Rattle.std.proofs.lemmas.Bool.{and_parts, eqb-true, or_parts}
use Rattle.std.proofs.lemmas.Slice.Eq.{bytes_eq-Decides}
use Rattle.std.proofs.Math.Bool.{or_assoc}
use Rattle.lotos_base.proofs.Truth.{same_truth}
use Rattle.lotos_base.specs.Names.{folded}
use Rattle.lotos_base.specs.Equation.{Place}
use Rattle.syntax_trees.specs.WrittenItem.{WrittenPair}
use Rattle.sort_terms.specs.ReadingOutcome.{one_name}
use Rattle.sort_terms.specs.WellFormedTest.{all_differ}
use Rattle.type_presentations.proofs.AddedLemmas.{Keying, by_name, by_profile}
use Rattle.type_presentations.proofs.KeyedLemmas.{mutual_by_key}
use Rattle.type_definitions.specs.Presentation.{first_position, is_same_place, with_new}
use Rattle.type_definitions.specs.ActualisationFaults.{Coming, made_by_two}
use Rattle.type_renaming.specs.Condensed.{Kind, members_clash, absorbed, first_pair, images_of, makers_of, pair_at, place_of_pair, sort_kind, operation_kind}
use Rattle.type_renaming.specs.Noting.{first_place, maker_at, maker_noted, two_makers}
use Rattle.type_renaming.specs.CondensedLaws.{TellsClashes}

-- ---- Tests.

turned_round : (a b c : Bool) → ((a || c) || b) ≡ ((a || b) || c)
turned_round true b c = refl
turned_round false true true = refl
turned_round false true false = refl
turned_round false false true = refl
turned_round false false false = refl

-- ---- A kind of members: those that are one, and among these those of one origin.

pub record IsKind {A : Type 0} (k : Kind A) : Type 0 where
  pub ones_turned : (x y : A) → k.one x y ≡ k.one y x
  -- what is one with a member is one with what is one with it
  pub ones_alike : (x y z : A) → k.one x y ≡ true → k.one z x ≡ k.one z y
  pub origins_alike : (x y z : A) → k.origin x y ≡ true → k.origin z x ≡ k.origin z y
  pub places_alike : (p q r : WrittenPair) → is_same_place p.place q.place ≡ true
      → is_same_place r.place p.place ≡ is_same_place r.place q.place

-- ---- The images.

pub images_absorbed : {A : Type 0} (k : Kind A) (cs : List (Coming A)) (x : Coming A)
    → images_of (absorbed k cs x) ≡ with_new (λ (a : A) (b : A). k.one a b && k.origin a b) (images_of cs) (x.image ∷ [])
images_absorbed k [] x = refl
images_absorbed {A = A} k (c ∷ cs) x = go (k.one x.image c.image && k.origin x.image c.image) (images_absorbed k cs x)
  where
    kept : (b : Bool) → c.image ∷ (if b then images_of cs else images_of cs ++ x.image ∷ [])
        ≡ (if b then c.image ∷ images_of cs else (c.image ∷ images_of cs) ++ x.image ∷ [])
    kept true = refl
    kept false = refl

    go : (b : Bool)
        → images_of (absorbed k cs x) ≡ with_new (λ (a : A) (d : A). k.one a d && k.origin a d) (images_of cs) (x.image ∷ [])
        → images_of (if b then record { image = c.image; pair = first_pair c.pair x.pair } ∷ cs else c ∷ absorbed k cs x)
        ≡ (if b || list_any (λ (d : A). k.one x.image d && k.origin x.image d) (images_of cs) then c.image ∷ images_of cs
        else (c.image ∷ images_of cs) ++ x.image ∷ [])
    go true rest = refl
    go false rest = ap (λ (ys : List A). c.image ∷ ys) rest ∙ kept (list_any (λ (d : A). k.one x.image d && k.origin x.image d)
        (images_of cs))

-- ---- Pairs that made one member.

made_by_either : {A : Type 0} (k : Kind A) → IsKind k → (own other new : Option WrittenPair) → made_by_two new other ≡ false
    → made_by_two own (first_pair other new) ≡ (made_by_two own other || made_by_two own new)
made_by_either k is None other new apart = refl
made_by_either k is (Some r) None new apart = refl
made_by_either k is (Some r) (Some q) None apart = last (not (is_same_place r.place q.place))
  where
    last : (a : Bool) → a ≡ (a || false)
    last true = refl
    last false = refl
made_by_either k is (Some r) (Some q) (Some p) apart =
    twice (not (is_same_place r.place q.place)) (not (is_same_place r.place p.place))
    (ap not (sym (is.places_alike p q r (not_not (is_same_place p.place q.place) apart))))
  where
    not_not : (a : Bool) → not a ≡ false → a ≡ true
    not_not true e = refl
    not_not false e = cc

    twice : (a b : Bool) → a ≡ b → a ≡ (a || b)
    twice true b e = refl
    twice false b e = e

-- ---- One more member, which clashes with none.

-- an entry that takes the pair of the member
clash_of_entry : {A : Type 0} (k : Kind A) → IsKind k → (z c x : Coming A) → (k.one x.image c.image && k.origin x.image c.image) ≡ true
    → members_clash k x c ≡ false
    → members_clash k z (record { image = c.image; pair = first_pair c.pair x.pair }) ≡ (members_clash k z c || members_clash k z x)
clash_of_entry {A = A} k is z c x same apart =
    let parts = and_parts (k.one x.image c.image) (k.origin x.image c.image) same in
    let one : k.one z.image x.image ≡ k.one z.image c.image = is.ones_alike x.image c.image z.image parts.0 in
    let origin : k.origin z.image x.image ≡ k.origin z.image c.image = is.origins_alike x.image c.image z.image parts.1 in
    let alone : made_by_two x.pair c.pair ≡ false =
    sym (ap (λ (b : Bool). b && (not (k.origin x.image c.image) || made_by_two x.pair c.pair)) parts.0
    ∙ ap (λ (b : Bool). not b || made_by_two x.pair c.pair) parts.1)
    ∙ apart in
    joined (k.one z.image c.image) (k.origin z.image c.image) (made_by_two z.pair c.pair) (made_by_two z.pair x.pair)
    (made_by_two z.pair (first_pair c.pair x.pair)) (made_by_either k is z.pair c.pair x.pair alone)
    ∙ ap (λ (b : Bool). members_clash k z c || (b && (not (k.origin z.image c.image) || made_by_two z.pair x.pair))) (sym one)
    ∙ ap (λ (b : Bool). members_clash k z c || (k.one z.image x.image && (not b || made_by_two z.pair x.pair))) (sym origin)
  where
    joined : (o g m n b : Bool) → b ≡ (m || n) → (o && (not g || b)) ≡ ((o && (not g || m)) || (o && (not g || n)))
    joined false g m n b e = refl
    joined true false m n b e = refl
    joined true true m n b e = e

pub clashes_with_absorbed : {A : Type 0} (k : Kind A) → IsKind k → (cs : List (Coming A)) (z x : Coming A)
    → list_any (members_clash k x) cs ≡ false → list_any (members_clash k z) (absorbed k cs x)
    ≡ (list_any (members_clash k z) cs || members_clash k z x)
clashes_with_absorbed k is [] z x apart = last (members_clash k z x)
  where
    last : (a : Bool) → (a || false) ≡ a
    last true = refl
    last false = refl
clashes_with_absorbed {A = A} k is (c ∷ cs) z x apart =
    let parts = or_parts (members_clash k x c) (list_any (members_clash k x) cs) apart in
    go (k.one x.image c.image && k.origin x.image c.image) refl parts.0 (clashes_with_absorbed k is cs z x parts.1)
  where
    go : (b : Bool) → (k.one x.image c.image && k.origin x.image c.image) ≡ b → members_clash k x c ≡ false
        → list_any (members_clash k z) (absorbed k cs x) ≡ (list_any (members_clash k z) cs || members_clash k z x)
        → list_any (members_clash k z) (if b then record { image = c.image; pair = first_pair c.pair x.pair } ∷ cs else c ∷ absorbed k cs x)
        ≡ ((members_clash k z c || list_any (members_clash k z) cs) || members_clash k z x)
    go true same other rest =
        ap (λ (b : Bool). b || list_any (members_clash k z) cs) (clash_of_entry k is z c x same other)
        ∙ turned_round (members_clash k z c) (list_any (members_clash k z) cs) (members_clash k z x)
    go false same other rest =
        ap (λ (b : Bool). members_clash k z c || b) rest
        ∙ sym (or_assoc (members_clash k z c) (list_any (members_clash k z) cs) (members_clash k z x))

-- ---- What the code tests.

-- none of the rest is one with the member
pub none_is_one : {A : Type 0} (k : Kind A) (cs : List (Coming A)) (x : Coming A) → list_any (k.one x.image) (images_of cs) ≡ false
    → list_any (members_clash k x) cs ≡ false
none_is_one k [] x none = refl
none_is_one k (c ∷ cs) x none =
    let parts = or_parts (k.one x.image c.image) (list_any (k.one x.image) (images_of cs)) none in
    ap (λ (b : Bool). (b && (not (k.origin x.image c.image) || made_by_two x.pair c.pair)) || list_any (members_clash k x) cs) parts.0
    ∙ none_is_one k cs x parts.1

-- a new one clashes where one of its name is there
pub clash_of_new : {A : Type 0} (k : Kind A) (cs : List (Coming A)) (x : Coming A)
    → list_any (λ (d : A). k.one x.image d && k.origin x.image d) (images_of cs) ≡ false
    → list_any (members_clash k x) cs ≡ list_any (k.one x.image) (images_of cs)
clash_of_new k [] x new = refl
clash_of_new {A = A} k (c ∷ cs) x new =
    let parts =
    or_parts (k.one x.image c.image && k.origin x.image c.image)
    (list_any (λ (d : A). k.one x.image d && k.origin x.image d) (images_of cs)) new in
    ap (λ (b : Bool). b || list_any (members_clash k x) cs)
    (alone (k.one x.image c.image) (k.origin x.image c.image) (made_by_two x.pair c.pair) parts.0)
    ∙ ap (λ (b : Bool). k.one x.image c.image || b) (clash_of_new k cs x parts.1)
  where
    alone : (o g m : Bool) → (o && g) ≡ false → (o && (not g || m)) ≡ o
    alone false g m e = refl
    alone true false m e = refl
    alone true true m e = cc

-- one that is there clashes where another pair made it
pub clash_of_old : {A : Type 0} (k : Kind A) → IsKind k → (cs : List (Coming A)) (x : Coming A)
    → all_differ k.one (images_of cs) ≡ true
    → list_any (λ (d : A). k.one x.image d && k.origin x.image d) (images_of cs) ≡ true
    → list_any (members_clash k x) cs ≡ made_by_two x.pair (pair_at k cs x.image)
clash_of_old k is [] x apart there = let h : false ≡ true = there in cc
clash_of_old {A = A} k is (c ∷ cs) x apart there =
    let parts = and_parts (not (list_any (k.one c.image) (images_of cs))) (all_differ k.one (images_of cs)) apart in
    go (k.one x.image c.image && k.origin x.image c.image) refl there parts.0 (clash_of_old k is cs x parts.1)
  where
    not_true : (b : Bool) → not b ≡ true → b ≡ false
    not_true true e = cc
    not_true false e = refl

    alike : (ds : List (Coming A)) → k.one x.image c.image ≡ true
        → list_any (k.one x.image) (images_of ds) ≡ list_any (k.one c.image) (images_of ds)
    alike [] one = refl
    alike (d ∷ ds) one =
        ap (λ (b : Bool). b || list_any (k.one x.image) (images_of ds))
        (is.ones_turned x.image d.image ∙ is.ones_alike x.image c.image d.image one ∙ is.ones_turned d.image c.image)
        ∙ ap (λ (b : Bool). k.one c.image d.image || b) (alike ds one)

    weaker : (ds : List (Coming A)) → list_any (λ (d : A). k.one x.image d && k.origin x.image d) (images_of ds) ≡ true
        → list_any (k.one x.image) (images_of ds) ≡ true
    weaker [] h = h
    weaker (d ∷ ds) h = step (k.one x.image d.image) (k.origin x.image d.image) h (weaker ds)
      where
        step : (o g : Bool) → ((o && g) || list_any (λ (e : A). k.one x.image e && k.origin x.image e) (images_of ds)) ≡ true
            → (list_any (λ (e : A). k.one x.image e && k.origin x.image e) (images_of ds) ≡ true
            → list_any (k.one x.image) (images_of ds) ≡ true)
            → (o || list_any (k.one x.image) (images_of ds)) ≡ true
        step true g e rest = refl
        step false g e rest = rest e

    different : true ≡ false → ⊥
    different e = cc

    -- a member one of whose kind stands later is not one with the first
    other : (o : Bool) → k.one x.image c.image ≡ o → list_any (k.one c.image) (images_of cs) ≡ false
        → list_any (k.one x.image) (images_of cs) ≡ true → o ≡ false
    other true one none some = absurd (different (sym some ∙ alike cs one ∙ none))
    other false one none some = refl

    go : (b : Bool) → (k.one x.image c.image && k.origin x.image c.image) ≡ b
        → (b || list_any (λ (d : A). k.one x.image d && k.origin x.image d) (images_of cs)) ≡ true
        → not (list_any (k.one c.image) (images_of cs)) ≡ true
        → (list_any (λ (d : A). k.one x.image d && k.origin x.image d) (images_of cs) ≡ true
        → list_any (members_clash k x) cs ≡ made_by_two x.pair (pair_at k cs x.image))
        → (members_clash k x c || list_any (members_clash k x) cs) ≡ made_by_two x.pair (if b then c.pair else pair_at k cs x.image)
    go true same some front rest =
        let both = and_parts (k.one x.image c.image) (k.origin x.image c.image) same in
        let none : list_any (k.one x.image) (images_of cs) ≡ false =
        alike cs both.0 ∙ not_true (list_any (k.one c.image) (images_of cs)) front in
        ap (λ (b : Bool). members_clash k x c || b) (none_is_one k cs x none)
        ∙ alone (k.one x.image c.image) (k.origin x.image c.image) (made_by_two x.pair c.pair) both.0 both.1
      where
        alone : (o g m : Bool) → o ≡ true → g ≡ true → ((o && (not g || m)) || false) ≡ m
        alone true true true e f = refl
        alone true true false e f = refl
        alone true false m e f = cc
        alone false g m e f = cc
    go false same some front rest =
        let not_one : k.one x.image c.image ≡ false =
        other (k.one x.image c.image) refl (not_true (list_any (k.one c.image) (images_of cs)) front) (weaker cs some) in
        ap (λ (b : Bool). (b && (not (k.origin x.image c.image) || made_by_two x.pair c.pair)) || list_any (members_clash k x) cs) not_one
        ∙ rest some

-- ---- Makers by number.

first_places : (p q : Option WrittenPair) → place_of_pair (first_pair p q) ≡ first_place (place_of_pair p) (place_of_pair q)
first_places None q = refl
first_places (Some p) q = refl

makers_noted : {A : Type 0} (k : Kind A) (cs : List (Coming A)) (x : Coming A)
    → makers_of (absorbed k cs x)
    ≡ maker_noted (makers_of cs) (first_position (λ (d : A). k.one x.image d && k.origin x.image d) (images_of cs)) (place_of_pair x.pair)
makers_noted k [] x = refl
makers_noted {A = A} k (c ∷ cs) x = go (k.one x.image c.image && k.origin x.image c.image) (makers_noted k cs x)
  where
    go : (b : Bool)
        → makers_of (absorbed k cs x)
        ≡ maker_noted (makers_of cs) (first_position (λ (d : A). k.one x.image d && k.origin x.image d) (images_of cs))
        (place_of_pair x.pair)
        → makers_of (if b then record { image = c.image; pair = first_pair c.pair x.pair } ∷ cs else c ∷ absorbed k cs x)
        ≡ maker_noted (place_of_pair c.pair ∷ makers_of cs)
        (if b then 0 else suc (first_position (λ (d : A). k.one x.image d && k.origin x.image d) (images_of cs)))
        (place_of_pair x.pair)
    go true rest = ap (λ (p : Option Place). p ∷ makers_of cs) (first_places c.pair x.pair)
    go false rest = ap (λ (ps : List (Option Place)). place_of_pair c.pair ∷ ps) rest

both_seen : (p q : Option WrittenPair) → made_by_two p q ≡ two_makers (place_of_pair p) (place_of_pair q)
both_seen None q = refl
both_seen (Some p) None = refl
both_seen (Some p) (Some q) = refl

maker_seen : {A : Type 0} (k : Kind A) (cs : List (Coming A)) (x : A)
    → place_of_pair (pair_at k cs x)
    ≡ maker_at (makers_of cs) (first_position (λ (d : A). k.one x d && k.origin x d) (images_of cs))
maker_seen k [] x = refl
maker_seen {A = A} k (c ∷ cs) x = go (k.one x c.image && k.origin x c.image) (maker_seen k cs x)
  where
    go : (b : Bool)
        → place_of_pair (pair_at k cs x)
        ≡ maker_at (makers_of cs) (first_position (λ (d : A). k.one x d && k.origin x d) (images_of cs))
        → place_of_pair (if b then c.pair else pair_at k cs x)
        ≡ maker_at (place_of_pair c.pair ∷ makers_of cs)
        (if b then 0 else suc (first_position (λ (d : A). k.one x d && k.origin x d) (images_of cs)))
    go true rest = refl
    go false rest = rest

-- ---- The kinds of sorts and operations.

alike_by_key : {A : Type 0} (by : Keying A) (x y z : A) → by.same x y ≡ true → by.same z x ≡ by.same z y
alike_by_key by x y z one =
    let key = (by.tell x y).1 one in
    same_truth (by.same z x) (by.same z y) (λ h. (by.tell z y).0 ((by.tell z x).1 h ∙ key))
    (λ h. (by.tell z x).0 ((by.tell z y).1 h ∙ sym key))

names_alike : (x y z : List ℕ) → one_name x y ≡ true → one_name z x ≡ one_name z y
names_alike x y z one = ap (λ (ns : List ℕ). bytes_eq (folded z) ns) ((bytes_eq-Decides (folded x) (folded y)).0 one)

places_alike : (p q r : Place) → is_same_place p q ≡ true → is_same_place r p ≡ is_same_place r q
places_alike p q r same =
    let first = and_parts (nat_eq p.text q.text) (nat_eq p.line q.line && nat_eq p.column q.column) same in
    let rest = and_parts (nat_eq p.line q.line) (nat_eq p.column q.column) first.1 in
    ap (λ (n : ℕ). nat_eq r.text n && (nat_eq r.line p.line && nat_eq r.column p.column)) (eqb-true p.text q.text first.0)
    ∙ ap (λ (n : ℕ). nat_eq r.text q.text && (nat_eq r.line n && nat_eq r.column p.column)) (eqb-true p.line q.line rest.0)
    ∙ ap (λ (n : ℕ). nat_eq r.text q.text && (nat_eq r.line q.line && nat_eq r.column n)) (eqb-true p.column q.column rest.1)

pub sorts_are_a_kind : IsKind sort_kind
sorts_are_a_kind = record {
  ones_turned = λ x y. mutual_by_key by_name.key by_name.same by_name.tell x y;
  ones_alike = λ x y z one. alike_by_key by_name x y z one;
  origins_alike = λ x y z one. names_alike x.origin y.origin z.origin one;
  places_alike = λ p q r same. places_alike p.place q.place r.place same;
}

pub operations_are_a_kind : IsKind operation_kind
operations_are_a_kind = record {
  ones_turned = λ x y. mutual_by_key by_profile.key by_profile.same by_profile.tell x y;
  ones_alike = λ x y z one. alike_by_key by_profile x y z one;
  origins_alike = λ x y z one. names_alike x.origin y.origin z.origin one;
  places_alike = λ p q r same. places_alike p.place q.place r.place same;
}

pub tells : {A : Type 0} (k : Kind A) → IsKind k → TellsClashes A k
tells k is = record {
  images = images_absorbed k;
  clashes_stay = λ cs z x apart. clashes_with_absorbed k is cs z x apart;
  of_new = clash_of_new k;
  of_old = clash_of_old k is;
  makers = makers_noted k;
  maker = λ cs x.
      both_seen x.pair (pair_at k cs x.image)
      ∙ ap (λ (p : Option Place). two_makers (place_of_pair x.pair) p) (maker_seen k cs x.image);
}
