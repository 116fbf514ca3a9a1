-- One member comes: whether it clashes, which fault is kept, and how many are there.
use Rattle.std.proofs.Common.{◌≡◌, ℕ, zero, suc, ◌+◌, ◌<◌, ◌≤◌, Bool, true, false, List, [], ◌∷◌, ◌++◌, length, refl, ap, sym, ◌∙◌, arith}
use Rattle.std.specs.Prelude.{Option, Some, None, ◌||◌, ◌&&◌, not, if◌then◌else◌}
use Rattle.std.specs.List.{list_any}
use Rattle.std.proofs.lemmas.List.{length-append}
use Rattle.std.proofs.lemmas.List.Folds.{list_any-append}
use Rattle.std.proofs.Math.Bool.{or-false}
use Rattle.lotos_base.specs.WrittenTerm.{PlacedName}
use Rattle.lotos_base.specs.Equation.{Place}
use Rattle.syntax_trees.specs.WrittenItem.{WrittenPair}
use Rattle.sort_terms.specs.WellFormedTest.{all_differ}
use Rattle.type_presentations.proofs.KeptLemmas.{differ_and_one, first_of_added, first_within}
use Rattle.type_definitions.specs.TypeFault.{TypeFault, fault_if, first_fault}
use Rattle.type_definitions.specs.Presentation.{first_position, with_new}
use Rattle.type_definitions.specs.Actualisation.{Actualising}
use Rattle.type_definitions.specs.ActualisationFaults.{Coming, at_pair, coming_at, made_by_two}
use Rattle.type_definitions.proofs.WithNewLemmas.{position_within}
use Rattle.type_renaming.specs.Condensed.{Kind, absorbed, members_clash, images_of, makers_of, pair_at, place_of_pair}
use Rattle.type_renaming.specs.CondensedLaws.{TellsClashes}
use Rattle.type_renaming.specs.Noting.{maker_at, maker_noted, two_makers}
use Rattle.type_renaming.specs.CameView.{Arrived, are_one_member}
use Rattle.type_renaming.specs.FaultPlaces.{fault_at, kept_place, stands_at}

-- ---- Tests.

not_inj : (b c : Bool) → not b ≡ not c → b ≡ c
not_inj true true e = refl
not_inj true false e = let f : false ≡ true = e in cc
not_inj false true e = let f : true ≡ false = e in cc
not_inj false false e = refl

and_true : (b : Bool) → (b && true) ≡ b
and_true true = refl
and_true false = refl

-- ---- A name that has a position.

pub is_there : (b : Bool) (m n : ℕ) → Some n ≡ (if b then Some m else None) → b ≡ true
is_there true m n e = refl
is_there false m n e = let f : Some n ≡ None = e in cc

pub not_there : (b : Bool) (m : ℕ) → None ≡ (if b then Some m else None) → b ≡ false
not_there true m e = let f : None ≡ Some m = e in cc
not_there false m e = refl

-- ---- Where a fault stands.

at_is : (kind : Place → List ℕ → TypeFault) (pair : Option WrittenPair) (mention : PlacedName)
    → at_pair pair mention kind ≡ kind (stands_at pair mention).place (stands_at pair mention).name
at_is kind None mention = refl
at_is kind (Some pair) mention = refl

-- the first fault is that of the place that is kept
pub kept_fault : {A : Type 0} (a : Actualising) (kind : Place → List ℕ → TypeFault) (before : Option PlacedName) (is_fault : Bool)
    (x : Coming A) (later : Option TypeFault)
    → first_fault (fault_at kind before) (first_fault (fault_if is_fault (coming_at a kind x)) later)
    ≡ first_fault (fault_at kind (kept_place before is_fault (stands_at x.pair a.base.at))) later
kept_fault a kind (Some first) is_fault x later = refl
kept_fault a kind None true x later = ap (λ (f : TypeFault). Some f) (at_is kind x.pair a.base.at)
kept_fault a kind None false x later = refl

pub last_fault : (found : Option TypeFault) → first_fault found None ≡ found
last_fault None = refl
last_fault (Some fault) = refl

-- a test that is asked only where no place is kept
pub asked_if_none : (before : Option PlacedName) (b c : Bool) (at : PlacedName) → (before ≡ None → b ≡ c)
    → kept_place before b at ≡ kept_place before c at
asked_if_none None b c at same = ap (λ (d : Bool). kept_place None d at) (same refl)
asked_if_none (Some first) b c at same = refl

pub none_kept : (before : Option PlacedName) (b : Bool) (at : PlacedName) → kept_place before b at ≡ None → (before ≡ None) × (b ≡ false)
none_kept None true at none = let e : Some at ≡ None = none in cc
none_kept None false at none = (refl, refl)
none_kept (Some first) b at none = let e : Some first ≡ None = none in cc

-- ---- A kind of members, each of which is one with itself.

pub record IsLawful {A : Type 0} (k : Kind A) : Type 0 where
  pub tells : TellsClashes A k
  pub itself : (x : A) → are_one_member k x x ≡ true
  pub mutual_ : (x y : A) → k.one x y ≡ k.one y x

-- what came so far, condensed to the members that are there, no two of which clash
pub record Condensed {A : Type 0} (k : Kind A) (earlier : List (Coming A)) (st : Arrived A) : Type 0 where
  pub members : List (Coming A)
  pub told : (z : Coming A) → list_any (members_clash k z) earlier ≡ list_any (members_clash k z) members
  pub images : images_of members ≡ st.list
  pub makers : makers_of members ≡ st.makers
  pub differ : all_differ k.one st.list ≡ true

-- ---- A member that comes clashes where it is a second one of its kind, or another pair made it.

pair_none : {A : Type 0} (k : Kind A) (cs : List (Coming A)) (x : A) → list_any (are_one_member k x) (images_of cs) ≡ false
    → pair_at k cs x ≡ None
pair_none k [] x none = refl
pair_none k (c ∷ cs) x none = go (are_one_member k x c.image) none (pair_none k cs x)
  where
    go : (b : Bool) → (b || list_any (are_one_member k x) (images_of cs)) ≡ false
        → (list_any (are_one_member k x) (images_of cs) ≡ false → pair_at k cs x ≡ None)
        → (if b then c.pair else pair_at k cs x) ≡ None
    go true h rest = let e : true ≡ false = h in cc
    go false h rest = rest h

made_by_one : (p : Option WrittenPair) → made_by_two p None ≡ false
made_by_one None = refl
made_by_one (Some p) = refl

-- whether two pairs made it, by the makers of what is there
two_is : {A : Type 0} (k : Kind A) → IsLawful k → (earlier : List (Coming A)) (st : Arrived A) (c : Condensed k earlier st) (x : Coming A)
    (after : List A) → after ≡ with_new (are_one_member k) st.list (x.image ∷ [])
    → two_makers (place_of_pair x.pair) (maker_at st.makers (first_position (are_one_member k x.image) after))
    ≡ made_by_two x.pair (pair_at k c.members x.image)
two_is {A = A} k is earlier st c x after added =
    let number : first_position (are_one_member k x.image) after ≡ first_position (are_one_member k x.image) (images_of c.members) =
    ap (λ (ys : List A). first_position (are_one_member k x.image) ys) added
    ∙ first_of_added (are_one_member k) st.list x.image (is.itself x.image)
    ∙ ap (λ (ys : List A). first_position (are_one_member k x.image) ys) (sym c.images) in
    ap (λ (n : ℕ). two_makers (place_of_pair x.pair) (maker_at st.makers n)) number
    ∙ ap (λ (ps : List (Option Place)). two_makers (place_of_pair x.pair) (maker_at ps (first_position (are_one_member k x.image)
    (images_of c.members))))
    (sym c.makers)
    ∙ sym (is.tells.maker c.members x)

pub clash_is : {A : Type 0} (k : Kind A) → IsLawful k → (earlier : List (Coming A)) (st : Arrived A) → Condensed k earlier st
    → (x : Coming A) (after : List A) (is_second : Bool) → after ≡ with_new (are_one_member k) st.list (x.image ∷ [])
    → all_differ k.one after ≡ (not is_second && all_differ k.one st.list)
    → (is_second || two_makers (place_of_pair x.pair) (maker_at st.makers (first_position (are_one_member k x.image) after)))
    ≡ list_any (members_clash k x) earlier
clash_is {A = A} k is earlier st c x after is_second added seconds =
    ap (λ (b : Bool). is_second || b) (two_is k is earlier st c x after added)
    ∙ go (list_any (are_one_member k x.image) st.list) refl ∙ sym (c.told x)
  where
    same_images : list_any (are_one_member k x.image) (images_of c.members) ≡ list_any (are_one_member k x.image) st.list
    same_images = ap (λ (ys : List A). list_any (are_one_member k x.image) ys) c.images

    grown : (b : Bool) → list_any (are_one_member k x.image) st.list ≡ b → after ≡ (if b then st.list else st.list ++ x.image ∷ [])
    grown b told = added ∙ ap (λ (d : Bool). if d then st.list else st.list ++ x.image ∷ []) told

    is_not_second : not is_second ≡ all_differ k.one after
    is_not_second = sym (seconds ∙ ap (λ (b : Bool). not is_second && b) c.differ ∙ and_true (not is_second))

    go : (b : Bool) → list_any (are_one_member k x.image) st.list ≡ b
        → (is_second || made_by_two x.pair (pair_at k c.members x.image)) ≡ list_any (members_clash k x) c.members
    go true told =
        let first : is_second ≡ false =
        not_inj is_second false (is_not_second ∙ ap (λ (ys : List A). all_differ k.one ys) (grown true told) ∙ c.differ) in
        ap (λ (b : Bool). b || made_by_two x.pair (pair_at k c.members x.image)) first
        ∙ sym (is.tells.of_old c.members x (ap (λ (ys : List A). all_differ k.one ys) c.images ∙ c.differ) (same_images ∙ told))
    go false told =
        let second : is_second ≡ list_any (k.one x.image) st.list =
        not_inj is_second (list_any (k.one x.image) st.list)
        (is_not_second ∙ ap (λ (ys : List A). all_differ k.one ys) (grown false told)
        ∙ differ_and_one k.one is.mutual_ st.list x.image
        ∙ ap (λ (b : Bool). not (list_any (k.one x.image) st.list) && b) c.differ
        ∙ and_true (not (list_any (k.one x.image) st.list))) in
        ap (λ (p : Option WrittenPair). is_second || made_by_two x.pair p) (pair_none k c.members x.image (same_images ∙ told))
        ∙ ap (λ (b : Bool). is_second || b) (made_by_one x.pair) ∙ or-false is_second ∙ second
        ∙ ap (λ (ys : List A). list_any (k.one x.image) ys) (sym c.images) ∙ sym (is.tells.of_new c.members x (same_images ∙ told))

-- one that clashes with none is condensed with what came
pub condensed_next : {A : Type 0} (k : Kind A) → IsLawful k → (earlier : List (Coming A)) (st new : Arrived A) → Condensed k earlier st
    → (x : Coming A) (is_second : Bool) → new.list ≡ with_new (are_one_member k) st.list (x.image ∷ [])
    → new.makers ≡ maker_noted st.makers (first_position (are_one_member k x.image) new.list) (place_of_pair x.pair)
    → all_differ k.one new.list ≡ (not is_second && all_differ k.one st.list) → is_second ≡ false
    → list_any (members_clash k x) earlier ≡ false → Condensed k (earlier ++ x ∷ []) new
condensed_next {A = A} k is earlier st new c x is_second added made seconds first none =
    let number : first_position (are_one_member k x.image) new.list ≡ first_position (are_one_member k x.image) (images_of c.members) =
    ap (λ (ys : List A). first_position (are_one_member k x.image) ys) added
    ∙ first_of_added (are_one_member k) st.list x.image (is.itself x.image)
    ∙ ap (λ (ys : List A). first_position (are_one_member k x.image) ys) (sym c.images) in record {
      members = absorbed k c.members x;
      told = λ z.
          list_any-append (members_clash k z) earlier (x ∷ [])
          ∙ ap (λ (b : Bool). list_any (members_clash k z) earlier || b) (or-false (members_clash k z x))
          ∙ ap (λ (b : Bool). b || members_clash k z x) (c.told z)
          ∙ sym (is.tells.clashes_stay c.members z x (sym (c.told x) ∙ none));
      images =
          is.tells.images c.members x ∙ ap (λ (ys : List A). with_new (are_one_member k) ys (x.image ∷ [])) c.images ∙ sym added;
      makers =
          is.tells.makers c.members x
          ∙ ap (λ (ps : List (Option Place)). maker_noted ps (first_position (are_one_member k x.image) (images_of c.members))
          (place_of_pair x.pair))
          c.makers
          ∙ ap (λ (n : ℕ). maker_noted st.makers n (place_of_pair x.pair)) (sym number) ∙ sym made;
      differ =
          seconds ∙ ap (λ (b : Bool). not b && all_differ k.one st.list) first ∙ c.differ;
    }

-- ---- How many there are.

noted_there : (ps : List (Option Place)) (n : ℕ) (maker : Option Place) → n < length ps → length (maker_noted ps n maker) ≡ length ps
noted_there [] n maker within = absurd (omega (arith, within))
noted_there (p ∷ ps) zero maker within = refl
noted_there (p ∷ ps) (suc n) maker within = ap (λ (m : ℕ). suc m) (noted_there ps n maker (omega (arith, within)))

noted_new : (ps : List (Option Place)) (n : ℕ) (maker : Option Place) → n ≡ length ps → length (maker_noted ps n maker) ≡ suc (length ps)
noted_new [] n maker is = refl
noted_new (p ∷ ps) zero maker is = absurd (omega (arith, is))
noted_new (p ∷ ps) (suc n) maker is = ap (λ (m : ℕ). suc m) (noted_new ps n maker (omega (arith, is)))

past : {A : Type 0} (test : A → Bool) (xs : List A) → list_any test xs ≡ false → first_position test xs ≡ length xs
past test [] h = refl
past {A = A} test (x ∷ xs) h = go (test x) h (past test xs)
  where
    go : (b : Bool) → (b || list_any test xs) ≡ false → (list_any test xs ≡ false → first_position test xs ≡ length xs)
        → (if b then 0 else suc (first_position test xs)) ≡ suc (length xs)
    go true none rest = let e : true ≡ false = none in cc
    go false none rest = ap (λ (n : ℕ). suc n) (rest none)

-- as many makers as members
pub as_many : {A : Type 0} (same : A → A → Bool) → ((x : A) → same x x ≡ true) → (there after : List A) (x : A)
    (makers noted_makers : List (Option Place)) (maker : Option Place) → length makers ≡ length there
    → after ≡ with_new same there (x ∷ []) → noted_makers ≡ maker_noted makers (first_position (same x) after) maker
    → length noted_makers ≡ length after
as_many {A = A} same itself there after x makers noted_makers maker many added made =
    ap (λ (ps : List (Option Place)). length ps) made ∙ ap (λ (n : ℕ). length (maker_noted makers n maker)) number
    ∙ go (list_any (same x) there) refl ∙ ap (λ (ys : List A). length ys) (sym added)
  where
    number : first_position (same x) after ≡ first_position (same x) there
    number = ap (λ (ys : List A). first_position (same x) ys) added ∙ first_of_added same there x (itself x)

    go : (b : Bool) → list_any (same x) there ≡ b
        → length (maker_noted makers (first_position (same x) there) maker)
        ≡ length (if list_any (same x) there then there else there ++ x ∷ [])
    go true told =
        let below : first_position (same x) there < length makers =
        let first : first_position (same x) there < length there = position_within (same x) there told in omega (arith, first, many) in
        noted_there makers (first_position (same x) there) maker below ∙ many
        ∙ ap (λ (b : Bool). length (if b then there else there ++ x ∷ [])) (sym told)
    go false told =
        noted_new makers (first_position (same x) there) maker (past (same x) there told ∙ sym many) ∙ ap (λ (n : ℕ). suc n) many
        ∙ one_longer ∙ ap (λ (b : Bool). length (if b then there else there ++ x ∷ [])) (sym told)
      where
        one_longer : suc (length there) ≡ length (there ++ x ∷ [])
        one_longer = let longer : length (there ++ x ∷ []) ≡ length there + 1 = length-append there (x ∷ []) in omega (arith, longer)

-- the number of a member is one of theirs, or the next one
pub number_within : {A : Type 0} (same : A → A → Bool) → ((x : A) → same x x ≡ true) → (there after : List A) (x : A)
    (makers : List (Option Place)) (number : ℕ) → length makers ≡ length there → after ≡ with_new same there (x ∷ [])
    → number ≡ first_position (same x) after → number ≤ length makers
number_within {A = A} same itself there after x makers number many added is =
    let first : number ≡ first_position (same x) there =
    is ∙ ap (λ (ys : List A). first_position (same x) ys) added ∙ first_of_added same there x (itself x) in
    let within : first_position (same x) there ≤ length there = first_within (same x) there in
    omega (arith, first, within, many)
