-- All places at which left sides may overlap are listed, in order, so the pairs of the places are all critical pairs.
use Rattle.std.proofs.Common.{◌≡◌, ◌<◌, ◌≤◌, ◌+◌, ℕ, zero, suc, List, [], ◌∷◌, ◌++◌, map, Bool, true, false, nat_eq, refl, ap, sym, ◌∙◌, subst, inl, inr, arith}
use Rattle.std.specs.Prelude.{◌⊎◌, ◌&&◌, if◌then◌else◌, Some, None, slice_get}
use Rattle.std.proofs.lemmas.Option.{same_Some}
use Rattle.std.proofs.lemmas.Bool.Decides.{Decides-eqb}
use Rattle.lotos_base.specs.Term.{Term, variable, node, Terms, no_terms, term_then}
use Rattle.lotos_base.specs.Path.{argument_at, subterm}
use Rattle.lotos_base.proofs.PathLemmas.{subterm_below}
use Rattle.rewriting_theory.specs.Rule.{Rule, IsRuleAt, IsNode}
use Rattle.rewriting_theory.specs.CriticalPair.{OverlapPlace, Overlaps, CriticalPair, IsCriticalPair}
use Rattle.rewriting_theory.specs.Numbering.{IsNumbered}
use Rattle.rewriting_theory.specs.PairList.{PathComesBefore, PairPlace, place_of_critical_pair, IsEarlierPlace, AreCriticalPairs}
use Rattle.rewriting_theory.proofs.OverlapLemmas.{pair_overlaps}
use Rattle.rewriting_theory.specs.Places.{node_paths, argument_paths, is_root, places_at, places_with, places_from, places, IsApartAt, PairsOf, no_place, no_pair, one_pair}

-- ---- Members of lists, and lists in order

abbrev pub IsIn : {X : Type 0} → X → List X → Type 0
IsIn x [] = ⊥
IsIn x (y ∷ ys) = (y ≡ x) ⊎ IsIn x ys

pub in_left : {X : Type 0} (x : X) (xs ys : List X) → IsIn x xs → IsIn x (xs ++ ys)
in_left x [] ys is = absurd is
in_left x (y ∷ xs) ys (inl e) = inl e
in_left x (y ∷ xs) ys (inr is) = inr (in_left x xs ys is)

pub in_right : {X : Type 0} (x : X) (xs ys : List X) → IsIn x ys → IsIn x (xs ++ ys)
in_right x [] ys is = is
in_right x (y ∷ xs) ys is = inr (in_right x xs ys is)

pub in_either : {X : Type 0} (x : X) (xs ys : List X) → IsIn x (xs ++ ys) → IsIn x xs ⊎ IsIn x ys
in_either x [] ys is = inr is
in_either x (y ∷ xs) ys (inl e) = inl (inl e)
in_either x (y ∷ xs) ys (inr is) = go (in_either x xs ys is)
  where
    go : IsIn x xs ⊎ IsIn x ys → IsIn x (y ∷ xs) ⊎ IsIn x ys
    go (inl left) = inl (inr left)
    go (inr right) = inr right

in_map : {X Y : Type 0} (f : X → Y) (x : X) (xs : List X) → IsIn x xs → IsIn (f x) (map f xs)
in_map f x [] is = absurd is
in_map f x (y ∷ xs) (inl e) = inl (ap f e)
in_map f x (y ∷ xs) (inr is) = inr (in_map f x xs is)

pub in_map_back : {X Y : Type 0} (f : X → Y) (y : Y) (xs : List X) → IsIn y (map f xs) → (x : X) × IsIn x xs × (f x ≡ y)
in_map_back f y [] is = absurd is
in_map_back f y (x ∷ xs) (inl e) = (x, inl refl, e)
in_map_back f y (x ∷ xs) (inr is) = let found = in_map_back f y xs is in (found.0, inr found.1, found.2)

pub in_index : {X : Type 0} (x : X) (xs : List X) → IsIn x xs → (i : ℕ) × (slice_get xs i ≡ Some x)
in_index x [] is = absurd is
in_index x (y ∷ xs) (inl e) = (0, ap (λ z. Some z) e)
in_index x (y ∷ xs) (inr is) = let found = in_index x xs is in (suc found.0, found.1)

pub index_in : {X : Type 0} (x : X) (xs : List X) (i : ℕ) → slice_get xs i ≡ Some x → IsIn x xs
index_in x [] i e = let none : None ≡ Some x = e in cc
index_in x (y ∷ xs) zero e = inl (same_Some y x e)
index_in x (y ∷ xs) (suc i) e = inr (index_in x xs i e)

-- Each member is related to all later ones.
abbrev IsOrdered : {X : Type 0} → (X → X → Type 0) → List X → Type 0
IsOrdered Before [] = Unit {0}
IsOrdered {X = X} Before (x ∷ xs) = ((y : X) → IsIn y xs → Before x y) × IsOrdered Before xs

ordered_append : {X : Type 0} (Before : X → X → Type 0) (xs ys : List X) → IsOrdered Before xs → IsOrdered Before ys
    → ((x y : X) → IsIn x xs → IsIn y ys → Before x y) → IsOrdered Before (xs ++ ys)
ordered_append Before [] ys one two across = two
ordered_append {X = X} Before (x ∷ xs) ys one two across =
    ((λ y is. go y (in_either y xs ys is)), ordered_append Before xs ys one.1 two (λ v w left right. across v w (inr left) right))
  where
    go : (y : X) → IsIn y xs ⊎ IsIn y ys → Before x y
    go y (inl left) = one.0 y left
    go y (inr right) = across x y (inl refl) right

ordered_map : {X Y : Type 0} (Before : X → X → Type 0) (After : Y → Y → Type 0) (f : X → Y)
    → ((x y : X) → Before x y → After (f x) (f y)) → (xs : List X) → IsOrdered Before xs → IsOrdered After (map f xs)
ordered_map Before After f keeps [] ordered = tt
ordered_map {X = X} {Y = Y} Before After f keeps (x ∷ xs) ordered = (
  (λ y is. let found = in_map_back f y xs is in
      subst (λ (z : Y). After (f x) z) found.2 (keeps x found.0 (ordered.0 found.0 found.1))),
  ordered_map Before After f keeps xs ordered.1,
)

ordered_index : {X : Type 0} (Before : X → X → Type 0) (xs : List X) → IsOrdered Before xs → (i j : ℕ) (x y : X) → i < j
    → slice_get xs i ≡ Some x → slice_get xs j ≡ Some y → Before x y
ordered_index Before [] ordered i j x y less one two = let none : None ≡ Some x = one in cc
ordered_index {X = X} Before (z ∷ xs) ordered i zero x y less one two = absurd (omega (arith, less))
ordered_index {X = X} Before (z ∷ xs) ordered zero (suc j) x y less one two =
    subst (λ (w : X). Before w y) (same_Some z x one) (ordered.0 y (index_in y xs j two))
ordered_index Before (z ∷ xs) ordered (suc i) (suc j) x y less one two =
    ordered_index Before xs ordered.1 i j x y (omega (arith, less)) one two

-- ---- Paths

-- a path through arguments from a position on goes through one of them
record GoesThrough (k : ℕ) (path : List ℕ) : Type 0 where
  position : ℕ
  rest : List ℕ
  is_path : position ∷ rest ≡ path
  from : k ≤ position

goes_through : (k : ℕ) (ts : Terms) (path : List ℕ) → IsIn path (argument_paths k ts) → GoesThrough k path
goes_through k no_terms path is = absurd is
goes_through k (term_then t ts) path is =
    go (in_either path (map (λ q. k ∷ q) (node_paths t)) (argument_paths (suc k) ts) is) (goes_through (suc k) ts path)
  where
    go : IsIn path (map (λ q. k ∷ q) (node_paths t)) ⊎ IsIn path (argument_paths (suc k) ts)
        → (IsIn path (argument_paths (suc k) ts) → GoesThrough (suc k) path) → GoesThrough k path
    go (inl here) later =
        let found = in_map_back (λ q. k ∷ q) path (node_paths t) here in
        record { position = k; rest = found.0; is_path = found.2; from = omega arith }
    go (inr there) later =
        let found = later there in
        let from = found.from in
        record { position = found.position; rest = found.rest; is_path = found.is_path; from = omega (arith, from) }

-- the root comes before each of them
root_before : (k : ℕ) (path : List ℕ) → GoesThrough k path → PathComesBefore [] path
root_before k path through = subst (λ (p : List ℕ). PathComesBefore [] p) through.is_path tt

argument_before : (k : ℕ) (rest path : List ℕ) → GoesThrough (suc k) path → PathComesBefore (k ∷ rest) path
argument_before k rest path through =
    let from = through.from in
    subst (λ (p : List ℕ). PathComesBefore (k ∷ rest) p) through.is_path (inl (omega (arith, from)))

mutual
  node_paths_ordered : (t : Term) → IsOrdered PathComesBefore (node_paths t)
  node_paths_ordered (variable n s) = tt
  node_paths_ordered (node f ts) =
      ((λ path is. root_before 0 path (goes_through 0 ts path is)), argument_paths_ordered 0 ts)

  argument_paths_ordered : (k : ℕ) (ts : Terms) → IsOrdered PathComesBefore (argument_paths k ts)
  argument_paths_ordered k no_terms = tt
  argument_paths_ordered k (term_then t ts) =
      ordered_append PathComesBefore (map (λ q. k ∷ q) (node_paths t)) (argument_paths (suc k) ts)
      (ordered_map PathComesBefore PathComesBefore (λ q. k ∷ q) (λ p q before. inr (refl, before)) (node_paths t) (node_paths_ordered t))
      (argument_paths_ordered (suc k) ts)
      (λ p q left right.
      let found = in_map_back (λ r. k ∷ r) p (node_paths t) left in
      subst (λ (r : List ℕ). PathComesBefore r q) found.2 (argument_before k found.0 q (goes_through (suc k) ts q right)))

argument_path : (k j m : ℕ) (a : Term) (ts : Terms) (path : List ℕ) → argument_at j ts ≡ Some a → m ≡ k + j
    → IsIn path (node_paths a) → IsIn (m ∷ path) (argument_paths k ts)
argument_path k j m a no_terms path e sum is = cc
argument_path k zero m a (term_then t ts) path e sum is =
    let same : k ≡ m = omega (arith, sum) in
    in_left (m ∷ path) (map (λ q. k ∷ q) (node_paths t)) (argument_paths (suc k) ts)
    (subst (λ (i : ℕ). IsIn (i ∷ path) (map (λ q. k ∷ q) (node_paths t))) same
    (in_map (λ q. k ∷ q) path (node_paths t) (subst (λ (w : Term). IsIn path (node_paths w)) (sym (same_Some t a e)) is)))
argument_path k (suc j) m a (term_then t ts) path e sum is =
    in_right (m ∷ path) (map (λ q. k ∷ q) (node_paths t)) (argument_paths (suc k) ts)
    (argument_path (suc k) j m a ts path e (omega (arith, sum)) is)

-- each path that leads to no variable is listed
node_path : (path : List ℕ) (t part : Term) → subterm path t ≡ Some part → IsNode part → IsIn path (node_paths t)
node_path [] (variable n s) part e is = subst IsNode (sym (same_Some (variable n s) part e)) is
node_path [] (node f ts) part e is = inl refl
node_path (j ∷ path) (variable n s) part e is = cc
node_path (j ∷ path) (node f ts) part e is =
    let below = subterm_below j path f ts part e in
    inr (argument_path 0 j j below.argument ts path below.found (omega arith) (node_path path below.argument part below.inside is))

-- ---- Places

abbrev at : ℕ → ℕ → List ℕ → PairPlace
at first second path = record { first = first; second = second; path = path }

-- the places at paths are at these paths
at_path : (first second : ℕ) (paths : List (List ℕ)) (place : PairPlace) → IsIn place (places_at first second paths)
    → (path : List ℕ) × IsIn path paths × (at first second path ≡ place)
at_path first second [] place is = absurd is
at_path first second (path ∷ paths) place is = go (nat_eq first second && is_root path) is (at_path first second paths place)
  where
    go : (b : Bool)
        → IsIn place (if b then places_at first second paths else at first second path ∷ places_at first second paths)
        → (IsIn place (places_at first second paths) → (p : List ℕ) × IsIn p paths × (at first second p ≡ place))
        → (p : List ℕ) × IsIn p (path ∷ paths) × (at first second p ≡ place)
    go true within later = let found = later within in (found.0, inr found.1, found.2)
    go false (inl e) later = (path, inl refl, e)
    go false (inr within) later = let found = later within in (found.0, inr found.1, found.2)

places_at_ordered : (first second : ℕ) (paths : List (List ℕ)) → IsOrdered PathComesBefore paths
    → IsOrdered IsEarlierPlace (places_at first second paths)
places_at_ordered first second [] ordered = tt
places_at_ordered first second (path ∷ paths) ordered =
    go (nat_eq first second && is_root path) (places_at_ordered first second paths ordered.1)
  where
    go : (b : Bool) → IsOrdered IsEarlierPlace (places_at first second paths)
        → IsOrdered IsEarlierPlace (if b then places_at first second paths else at first second path ∷ places_at first second paths)
    go true rest = rest
    go false rest = (
      (λ place is. let found = at_path first second paths place is in
          subst (λ (p : PairPlace). IsEarlierPlace (at first second path) p) found.2
          (inr (refl, inr (refl, ordered.0 found.0 found.1)))),
      rest,
    )

in_places_at : (first second : ℕ) (path : List ℕ) (paths : List (List ℕ)) → (first ≡ second → path ≡ [] → ⊥) → IsIn path paths
    → IsIn (at first second path) (places_at first second paths)
in_places_at first second path [] apart is = absurd is
in_places_at first second path (other ∷ paths) apart is =
    go (nat_eq first second) refl other is (λ later. in_places_at first second path paths apart later)
  where
    go : (b : Bool) → nat_eq first second ≡ b → (q : List ℕ) → IsIn path (q ∷ paths)
        → (IsIn path paths → IsIn (at first second path) (places_at first second paths))
        → IsIn (at first second path)
        (if b && is_root q then places_at first second paths else at first second q ∷ places_at first second paths)
    go true e [] (inl same) later = absurd (apart ((Decides-eqb first second).0 e) (sym same))
    go true e [] (inr within) later = later within
    go true e (k ∷ q) (inl same) later = inl (ap (λ (p : List ℕ). at first second p) same)
    go true e (k ∷ q) (inr within) later = inr (later within)
    go false e q (inl same) later = inl (ap (λ (p : List ℕ). at first second p) same)
    go false e q (inr within) later = inr (later within)

-- the places of a first rule are its, with second rules from a number on
record IsWith (first second : ℕ) (place : PairPlace) : Type 0 where
  is_first : first ≡ place.first
  from : second ≤ place.second

is_with : (first : ℕ) (rule : Rule) (second : ℕ) (others : List Rule) (place : PairPlace)
    → IsIn place (places_with first rule second others) → IsWith first second place
is_with first rule second [] place is = absurd is
is_with first rule second (other ∷ others) place is =
    go (in_either place (places_at first second (node_paths rule.left)) (places_with first rule (suc second) others) is)
    (is_with first rule (suc second) others place)
  where
    go : IsIn place (places_at first second (node_paths rule.left)) ⊎ IsIn place (places_with first rule (suc second) others)
        → (IsIn place (places_with first rule (suc second) others) → IsWith first (suc second) place) → IsWith first second place
    go (inl here) later =
        let found = at_path first second (node_paths rule.left) place here in
        record {
          is_first = ap (λ (p : PairPlace). p.first) found.2;
          from = let same : second ≡ place.second = ap (λ (p : PairPlace). p.second) found.2 in omega (arith, same);
        }
    go (inr there) later =
        let found = later there in
        let from = found.from in
        record { is_first = found.is_first; from = omega (arith, from) }

places_with_ordered : (first : ℕ) (rule : Rule) (second : ℕ) (others : List Rule)
    → IsOrdered IsEarlierPlace (places_with first rule second others)
places_with_ordered first rule second [] = tt
places_with_ordered first rule second (other ∷ others) =
    ordered_append IsEarlierPlace (places_at first second (node_paths rule.left)) (places_with first rule (suc second) others)
    (places_at_ordered first second (node_paths rule.left) (node_paths_ordered rule.left))
    (places_with_ordered first rule (suc second) others)
    (λ one two left right.
    let here = at_path first second (node_paths rule.left) one left in
    let there = is_with first rule (suc second) others two right in
    let from = there.from in
    subst (λ (p : PairPlace). IsEarlierPlace p two) here.2 (inr (there.is_first, inl (omega (arith, from)))))

in_places_with : (first : ℕ) (rule : Rule) (second k m : ℕ) (other : Rule) (others : List Rule) (path : List ℕ)
    → IsRuleAt others k other → m ≡ second + k → IsIn path (node_paths rule.left) → (first ≡ m → path ≡ [] → ⊥)
    → IsIn (at first m path) (places_with first rule second others)
in_places_with first rule second k m other [] path is sum inside apart = let none : None ≡ Some other = is in cc
in_places_with first rule second zero m other (one ∷ others) path is sum inside apart =
    let same : m ≡ second = omega (arith, sum) in
    in_left (at first m path) (places_at first second (node_paths rule.left)) (places_with first rule (suc second) others)
    (subst (λ (i : ℕ). IsIn (at first m path) (places_at first i (node_paths rule.left))) same
    (in_places_at first m path (node_paths rule.left) apart inside))
in_places_with first rule second (suc k) m other (one ∷ others) path is sum inside apart =
    in_right (at first m path) (places_at first second (node_paths rule.left)) (places_with first rule (suc second) others)
    (in_places_with first rule (suc second) k m other others path is (omega (arith, sum)) inside apart)

-- the places of first rules from a number on
from_first : (rules : List Rule) (first : ℕ) (firsts : List Rule) (place : PairPlace) → IsIn place (places_from rules first firsts)
    → first ≤ place.first
from_first rules first [] place is = absurd is
from_first rules first (rule ∷ firsts) place is =
    go (in_either place (places_with first rule 0 rules) (places_from rules (suc first) firsts) is)
    (from_first rules (suc first) firsts place)
  where
    go : IsIn place (places_with first rule 0 rules) ⊎ IsIn place (places_from rules (suc first) firsts)
        → (IsIn place (places_from rules (suc first) firsts) → suc first ≤ place.first) → first ≤ place.first
    go (inl here) later = let same = (is_with first rule 0 rules place here).is_first in omega (arith, same)
    go (inr there) later = let more = later there in omega (arith, more)

places_from_ordered : (rules : List Rule) (first : ℕ) (firsts : List Rule) → IsOrdered IsEarlierPlace (places_from rules first firsts)
places_from_ordered rules first [] = tt
places_from_ordered rules first (rule ∷ firsts) =
    ordered_append IsEarlierPlace (places_with first rule 0 rules) (places_from rules (suc first) firsts)
    (places_with_ordered first rule 0 rules) (places_from_ordered rules (suc first) firsts)
    (λ one two left right.
    let same = (is_with first rule 0 rules one left).is_first in
    let more = from_first rules (suc first) firsts two right in
    inl (omega (arith, same, more)))

in_places_from : (rules : List Rule) (first k n : ℕ) (rule : Rule) (firsts : List Rule) (m : ℕ) (other : Rule) (path : List ℕ)
    → IsRuleAt firsts k rule → n ≡ first + k → IsRuleAt rules m other → IsIn path (node_paths rule.left)
    → (n ≡ m → path ≡ [] → ⊥) → IsIn (at n m path) (places_from rules first firsts)
in_places_from rules first k n rule [] m other path is sum second inside apart = let none : None ≡ Some rule = is in cc
in_places_from rules first zero n rule (one ∷ firsts) m other path is sum second inside apart =
    let same : n ≡ first = omega (arith, sum) in
    in_left (at n m path) (places_with first one 0 rules) (places_from rules (suc first) firsts)
    (subst (λ (r : Rule). IsIn (at n m path) (places_with first r 0 rules)) (sym (same_Some one rule is))
    (subst (λ (i : ℕ). IsIn (at n m path) (places_with i rule 0 rules)) same
    (in_places_with n rule 0 m m other rules path second (omega arith) inside apart)))
in_places_from rules first (suc k) n rule (one ∷ firsts) m other path is sum second inside apart =
    in_right (at n m path) (places_with first one 0 rules) (places_from rules (suc first) firsts)
    (in_places_from rules (suc first) k n rule firsts m other path is (omega (arith, sum)) second inside apart)

-- all places are listed
in_places : (rules : List Rule) (place : PairPlace) → OverlapPlace rules place.first place.second place.path → IsIn place (places rules)
in_places rules place there =
    in_places_from rules 0 place.first place.first there.first_rule rules place.second there.second_rule place.path
    there.is_first (omega arith) there.is_second
    (node_path place.path there.first_rule.left there.part there.is_part there.no_variable)
    there.no_same_root

pub place_listed : (rules : List Rule) (place : PairPlace) → OverlapPlace rules place.first place.second place.path
    → (number : ℕ) × (slice_get (places rules) number ≡ Some place)
place_listed rules place there = in_index place (places rules) (in_places rules place there)

-- ---- Pairs of places

-- What a listed pair is.
record IsFrom (rules : List Rule) (list : List PairPlace) (pair : CriticalPair) : Type 0 where
  place : IsIn (place_of_critical_pair pair) list
  critical : IsCriticalPair rules pair
  numbered : IsNumbered pair.peak

pair_from : {rules : List Rule} {list : List PairPlace} {pairs : List CriticalPair} (pair : CriticalPair) → PairsOf rules list pairs
    → IsIn pair pairs → IsFrom rules list pair
pair_from pair no_place is = absurd is
pair_from pair (no_pair apart rest) is =
    let from = pair_from pair rest is in
    record { place = inr from.place; critical = from.critical; numbered = from.numbered }
pair_from {rules = rules} pair (one_pair {place = place} {others = others} one rest) (inl e) =
    subst (λ (p : CriticalPair). IsFrom rules (place ∷ others) p) e
    (record { place = inl (sym one.is_place); critical = one.critical; numbered = one.numbered })
pair_from pair (one_pair one rest) (inr is) =
    let from = pair_from pair rest is in
    record { place = inr from.place; critical = from.critical; numbered = from.numbered }

-- each place that overlaps has a pair
place_pair : {rules : List Rule} {list : List PairPlace} {pairs : List CriticalPair} (place : PairPlace)
    (there : OverlapPlace rules place.first place.second place.path) → Overlaps there → PairsOf rules list pairs → IsIn place list
    → (pair : CriticalPair) × IsIn pair pairs × (place_of_critical_pair pair ≡ place)
place_pair place there overlap no_place is = absurd is
place_pair {rules = rules} place there overlap (no_pair apart rest) (inl e) =
    absurd (subst (λ (p : PairPlace). IsApartAt rules p) e apart there overlap)
place_pair place there overlap (no_pair apart rest) (inr is) = place_pair place there overlap rest is
place_pair place there overlap (one_pair {pair = pair} one rest) (inl e) = (pair, inl refl, one.is_place ∙ e)
place_pair place there overlap (one_pair one rest) (inr is) =
    let found = place_pair place there overlap rest is in
    (found.0, inr found.1, found.2)

pairs_ordered : {rules : List Rule} {list : List PairPlace} {pairs : List CriticalPair} → PairsOf rules list pairs
    → IsOrdered IsEarlierPlace list → IsOrdered (λ one two. IsEarlierPlace (place_of_critical_pair one) (place_of_critical_pair two)) pairs
pairs_ordered no_place ordered = tt
pairs_ordered (no_pair apart rest) ordered = pairs_ordered rest ordered.1
pairs_ordered (one_pair {pair = pair} one rest) ordered = (
  (λ other is. subst (λ (p : PairPlace). IsEarlierPlace p (place_of_critical_pair other)) (sym one.is_place)
      (ordered.0 (place_of_critical_pair other) (pair_from other rest is).place)),
  pairs_ordered rest ordered.1,
)

pub pairs_are_all : (rules : List Rule) (pairs : List CriticalPair) → PairsOf rules (places rules) pairs → AreCriticalPairs rules pairs
pairs_are_all rules pairs from = record {
  critical = λ number pair is. (pair_from pair from (index_in pair pairs number is)).critical;
  numbered = λ number pair is. (pair_from pair from (index_in pair pairs number is)).numbered;
  complete = λ place there overlap.
      let found = place_pair place there overlap from (in_places rules place there) in
      let index = in_index found.0 pairs found.1 in
      (index.0, found.0, index.1, found.2);
  ordered = λ i j one two less is other.
      ordered_index (λ p q. IsEarlierPlace (place_of_critical_pair p) (place_of_critical_pair q)) pairs
      (pairs_ordered from (places_from_ordered rules 0 rules))
      i j one two less is other;
}

pub pairs_append : {rules : List Rule} {one two : List PairPlace} {pairs others : List CriticalPair} → PairsOf rules one pairs
    → PairsOf rules two others → PairsOf rules (one ++ two) (pairs ++ others)
pairs_append no_place rest = rest
pairs_append (no_pair apart first) rest = no_pair apart (pairs_append first rest)
pairs_append (one_pair is first) rest = one_pair is (pairs_append first rest)

-- ---- Two lists have the same places

before_twice : (p q : List ℕ) → PathComesBefore p q → PathComesBefore q p → ⊥
before_twice [] [] one two = one
before_twice [] (k ∷ q) one two = two
before_twice (j ∷ p) [] one two = one
before_twice (j ∷ p) (k ∷ q) (inl less) (inl more) = absurd (omega (arith, less, more))
before_twice (j ∷ p) (k ∷ q) (inl less) (inr both) = let same = both.0 in absurd (omega (arith, less, same))
before_twice (j ∷ p) (k ∷ q) (inr both) (inl more) = let same = both.0 in absurd (omega (arith, more, same))
before_twice (j ∷ p) (k ∷ q) (inr one) (inr two) = before_twice p q one.1 two.1

earlier_twice : (one two : PairPlace) → IsEarlierPlace one two → IsEarlierPlace two one → ⊥
earlier_twice one two (inl less) (inl more) = absurd (omega (arith, less, more))
earlier_twice one two (inl less) (inr both) = let same = both.0 in absurd (omega (arith, less, same))
earlier_twice one two (inr both) (inl more) = let same = both.0 in absurd (omega (arith, more, same))
earlier_twice one two (inr (e, inl less)) (inr (d, inl more)) = absurd (omega (arith, less, more))
earlier_twice one two (inr (e, inl less)) (inr (d, inr both)) = let same = both.0 in absurd (omega (arith, less, same))
earlier_twice one two (inr (e, inr both)) (inr (d, inl more)) = let same = both.0 in absurd (omega (arith, more, same))
earlier_twice one two (inr (e, inr left)) (inr (d, inr right)) = before_twice one.path two.path left.1 right.1

-- lists in order with the same members are the same
ordered_same : {X : Type 0} (Before : X → X → Type 0) → ((x y : X) → Before x y → Before y x → ⊥) → (xs ys : List X)
    → IsOrdered Before xs → IsOrdered Before ys → ((x : X) → IsIn x xs → IsIn x ys) → ((x : X) → IsIn x ys → IsIn x xs)
    → xs ≡ ys
ordered_same Before twice [] [] one two on back = refl
ordered_same Before twice [] (y ∷ ys) one two on back = absurd (back y (inl refl))
ordered_same Before twice (x ∷ xs) [] one two on back = absurd (on x (inl refl))
ordered_same {X = X} Before twice (x ∷ xs) (y ∷ ys) one two on back =
    let heads : x ≡ y = same (on x (inl refl)) (back y (inl refl)) in
    let tails : xs ≡ ys = ordered_same Before twice xs ys one.1 two.1
    (λ z is. later xs ys z x y one.0 heads is (on z (inr is)))
    (λ z is. later ys xs z y x two.0 (sym heads) is (back z (inr is))) in
    (λ i. heads i ∷ tails i)
  where
    same : IsIn x (y ∷ ys) → IsIn y (x ∷ xs) → x ≡ y
    same (inl e) other = sym e
    same (inr is) (inl e) = e
    same (inr is) (inr other) = absurd (twice y x (two.0 x is) (one.0 y other))

    later : (vs ws : List X) (z v w : X) → ((q : X) → IsIn q vs → Before v q) → v ≡ w → IsIn z vs → IsIn z (w ∷ ws) → IsIn z ws
    later vs ws z v w before e is (inl at) =
        let self : Before v v = subst (λ (q : X). Before v q) (sym at ∙ sym e) (before z is) in
        absurd (twice v v self self)
    later vs ws z v w before e is (inr at) = at

index_ordered : {X : Type 0} (Before : X → X → Type 0) (xs : List X)
    → ((i j : ℕ) (x y : X) → i < j → slice_get xs i ≡ Some x → slice_get xs j ≡ Some y → Before x y) → IsOrdered Before xs
index_ordered Before [] ordered = tt
index_ordered Before (x ∷ xs) ordered = (
  (λ y is. let at = in_index y xs is in ordered 0 (suc at.0) x y (omega arith) refl at.1),
  index_ordered Before xs (λ i j y z less one two. ordered (suc i) (suc j) y z (omega (arith, less)) one two),
)

places_ordered : {rules : List Rule} (pairs : List CriticalPair) → AreCriticalPairs rules pairs
    → IsOrdered IsEarlierPlace (map place_of_critical_pair pairs)
places_ordered pairs are =
    ordered_map (λ one two. IsEarlierPlace (place_of_critical_pair one) (place_of_critical_pair two)) IsEarlierPlace place_of_critical_pair
    (λ one two before. before) pairs
    (index_ordered (λ one two. IsEarlierPlace (place_of_critical_pair one) (place_of_critical_pair two)) pairs are.ordered)

-- a place of one list is a place of the other
place_in_other : {rules : List Rule} (pairs others : List CriticalPair) → AreCriticalPairs rules pairs → AreCriticalPairs rules others
    → (place : PairPlace) → IsIn place (map place_of_critical_pair pairs) → IsIn place (map place_of_critical_pair others)
place_in_other pairs others are also place is =
    let pair = in_map_back place_of_critical_pair place pairs is in
    let at = in_index pair.0 pairs pair.1 in
    let critical = are.critical at.0 pair.0 at.1 in
    let found = also.complete (place_of_critical_pair pair.0) critical.place (pair_overlaps critical) in
    subst (λ (p : PairPlace). IsIn p (map place_of_critical_pair others)) (found.3 ∙ pair.2)
    (in_map place_of_critical_pair found.1 others (index_in found.1 others found.0 found.2))

pub same_places : (rules : List Rule) (pairs others : List CriticalPair) → AreCriticalPairs rules pairs → AreCriticalPairs rules others
    → map place_of_critical_pair pairs ≡ map place_of_critical_pair others
same_places rules pairs others are also =
    ordered_same IsEarlierPlace earlier_twice (map place_of_critical_pair pairs) (map place_of_critical_pair others)
    (places_ordered pairs are)
    (places_ordered others also)
    (place_in_other pairs others are also) (place_in_other others pairs also are)
