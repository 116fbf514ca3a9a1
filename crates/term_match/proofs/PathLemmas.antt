-- Subterms and replacements in terms with profiles.
use Rattle.std.proofs.Common.{◌≡◌, ℕ, zero, suc, ◌+◌, ◌-◌, ◌<◌, ◌≤◌, List, [], ◌∷◌, ◌++◌, map, length, get_or, take, drop, refl, append_assoc, ap, sym, ◌∙◌, subst, arith, Bor, ltb, ltb-true, ltb-false, Bool, true, false, nat_eq}
use Rattle.std.specs.Prelude.{◌↔◌, Option, Some, None, is_some, IfSome, if◌then◌else◌}
use Rattle.std.specs.Option.{option_map, option_and_then}
use Rattle.std.proofs.Math.Seq.{take-length}
use Rattle.std.proofs.lemmas.List.{map-append, length-drop}
use Rattle.std.proofs.lemmas.Option.{same_Some}
use Rattle.std.proofs.lemmas.Bool.Decides.{Decides-eqb}
use Rattle.lotos_base.proofs.Options.{chained, mapped}
use Rattle.lotos_base.specs.Signature.{Signature, Operation}
use Rattle.lotos_base.specs.Term.{Term as PlainTerm, node, term_then}
use Rattle.lotos_base.specs.Path.{argument_at, with_argument, subterm, put_at}
use Rattle.lotos_base.proofs.PlainLemmas.{path_parts}
use Rattle.sort_terms.specs.ProfiledTerm.{ProfiledTerm, ProfiledTerms, profiled_variable, profiled_node, no_profiled_terms, profiled_term_then, bare, all_bare, head_sort, FitsProfiles, FitArguments, IsOf, AreOf}
use Rattle.sort_terms.specs.TermView.{profiled_of, all_profiled}
use Rattle.sort_terms.specs.SortedView.{profiled_in}
use Rattle.sort_terms.specs.declared.sorted.Sorted.{Sorted}
use Rattle.sort_terms.specs.declared.terms.Term.{Term}
use Rattle.term_match.specs.ProfiledPath.{profiled_argument_at, with_profiled_argument, profiled_subterm, profiled_put_at, where_sorts_agree, with_part_replaced, LeadsToSort}

-- ---- Without profiles

argument_bare : (k : ℕ) (ts : ProfiledTerms) → option_map bare (profiled_argument_at k ts) ≡ argument_at k (all_bare ts)
argument_bare k no_profiled_terms = refl
argument_bare zero (profiled_term_then t ts) = refl
argument_bare (suc k) (profiled_term_then t ts) = argument_bare k ts

with_argument_bare : (k : ℕ) (part : ProfiledTerm) (ts : ProfiledTerms)
    → all_bare (with_profiled_argument k part ts) ≡ with_argument k (bare part) (all_bare ts)
with_argument_bare k part no_profiled_terms = refl
with_argument_bare zero part (profiled_term_then t ts) = refl
with_argument_bare (suc k) part (profiled_term_then t ts) = ap (λ us. term_then (bare t) us) (with_argument_bare k part ts)

pub subterm_bare : (path : List ℕ) (t : ProfiledTerm) → option_map bare (profiled_subterm path t) ≡ subterm path (bare t)
subterm_bare [] t = refl
subterm_bare (k ∷ path) (profiled_variable n s) = refl
subterm_bare (k ∷ path) (profiled_node f operation ts) =
    go (profiled_argument_at k ts) (argument_at k (all_bare ts)) (argument_bare k ts) (λ t. subterm_bare path t)
  where
    go : (o : Option ProfiledTerm) (p : Option PlainTerm) → option_map bare o ≡ p
        → ((t : ProfiledTerm) → option_map bare (profiled_subterm path t) ≡ subterm path (bare t))
        → option_map bare (option_and_then (λ t. profiled_subterm path t) o) ≡ option_and_then (λ t. subterm path t) p
    go None p e below = subst (λ (q : Option PlainTerm). None ≡ option_and_then (λ t. subterm path t) q) e refl
    go (Some t) p e below =
        subst (λ (q : Option PlainTerm). option_map bare (profiled_subterm path t) ≡ option_and_then (λ u. subterm path u) q) e (below t)

pub put_bare : (path : List ℕ) (part t : ProfiledTerm)
    → option_map bare (profiled_put_at path part t) ≡ put_at path (bare part) (bare t)
put_bare [] part t = refl
put_bare (k ∷ path) part (profiled_variable n s) = refl
put_bare (k ∷ path) part (profiled_node f operation ts) =
    go (profiled_argument_at k ts) (argument_at k (all_bare ts)) (argument_bare k ts) (λ t. put_bare path part t)
  where
    inner : (o : Option ProfiledTerm) (p : Option PlainTerm) → option_map bare o ≡ p
        → option_map bare (option_map (λ t. profiled_node f operation (with_profiled_argument k t ts)) o)
        ≡ option_map (λ t. node f (with_argument k t (all_bare ts))) p
    inner None p e = subst (λ (q : Option PlainTerm). None ≡ option_map (λ t. node f (with_argument k t (all_bare ts))) q) e refl
    inner (Some t) p e =
        subst (λ (q : Option PlainTerm). Some (node f (all_bare (with_profiled_argument k t ts))) ≡ option_map
        (λ u. node f (with_argument k u (all_bare ts))) q) e
        (ap (λ us. Some (node f us)) (with_argument_bare k t ts))

    go : (o : Option ProfiledTerm) (p : Option PlainTerm) → option_map bare o ≡ p
        → ((t : ProfiledTerm) → option_map bare (profiled_put_at path part t) ≡ put_at path (bare part) (bare t))
        → option_map bare (option_map (λ t. profiled_node f operation (with_profiled_argument k t ts))
        (option_and_then (λ t. profiled_put_at path part t) o))
        ≡ option_map (λ t. node f (with_argument k t (all_bare ts))) (option_and_then (λ t. put_at path (bare part) t) p)
    go None p e below = subst (λ (q : Option PlainTerm). None ≡ option_map (λ t. node f (with_argument k t (all_bare ts)))
        (option_and_then (λ t. put_at path (bare part) t) q)) e refl
    go (Some t) p e below =
        subst (λ (q : Option PlainTerm). option_map bare (option_map (λ u. profiled_node f operation (with_profiled_argument k u ts))
        (profiled_put_at path part t))
        ≡ option_map (λ u. node f (with_argument k u (all_bare ts))) (option_and_then (λ u. put_at path (bare part) u) q)) e
        (inner (profiled_put_at path part t) (put_at path (bare part) (bare t)) (below t))

-- ---- Signatures and profiles are kept

argument_of : (signature : Signature) (k : ℕ) (ts : ProfiledTerms) (t : ProfiledTerm) → AreOf signature ts
    → profiled_argument_at k ts ≡ Some t → IsOf signature t
argument_of signature k no_profiled_terms t h e = cc
argument_of signature zero (profiled_term_then u us) t h e = subst (λ (v : ProfiledTerm). IsOf signature v) (same_Some _ _ e) h.0
argument_of signature (suc k) (profiled_term_then u us) t h e = argument_of signature k us t h.1 e

argument_fits : (k : ℕ) (ts : ProfiledTerms) (sorts : List ℕ) (t : ProfiledTerm) → FitArguments ts sorts
    → profiled_argument_at k ts ≡ Some t → FitsProfiles t
argument_fits k no_profiled_terms sorts t h e = cc
argument_fits k (profiled_term_then u us) [] t h e = absurd h
argument_fits zero (profiled_term_then u us) (s ∷ ss) t h e = subst (λ (v : ProfiledTerm). FitsProfiles v) (same_Some _ _ e) h.1
argument_fits (suc k) (profiled_term_then u us) (s ∷ ss) t h e = argument_fits k us ss t h.2 e

pub subterm_of : (signature : Signature) (path : List ℕ) (t part : ProfiledTerm) → IsOf signature t
    → profiled_subterm path t ≡ Some part → IsOf signature part
subterm_of signature [] t part h e = subst (λ (v : ProfiledTerm). IsOf signature v) (same_Some _ _ e) h
subterm_of signature (k ∷ path) (profiled_variable n s) part h e = cc
subterm_of signature (k ∷ path) (profiled_node f operation ts) part h e =
    let found = chained (λ t. profiled_subterm path t) (profiled_argument_at k ts) {y = part} e in
    subterm_of signature path found.0 part (argument_of signature k ts found.0 h.1 found.1) found.2

pub subterm_fits : (path : List ℕ) (t part : ProfiledTerm) → FitsProfiles t → profiled_subterm path t ≡ Some part → FitsProfiles part
subterm_fits [] t part h e = subst (λ (v : ProfiledTerm). FitsProfiles v) (same_Some _ _ e) h
subterm_fits (k ∷ path) (profiled_variable n s) part h e = cc
subterm_fits (k ∷ path) (profiled_node f operation ts) part h e =
    let found = chained (λ t. profiled_subterm path t) (profiled_argument_at k ts) {y = part} e in
    subterm_fits path found.0 part (argument_fits k ts operation.arguments found.0 h found.1) found.2

with_argument_of : (signature : Signature) (k : ℕ) (part : ProfiledTerm) (ts : ProfiledTerms) → AreOf signature ts
    → IsOf signature part → AreOf signature (with_profiled_argument k part ts)
with_argument_of signature k part no_profiled_terms h p = tt
with_argument_of signature zero part (profiled_term_then t ts) h p = (p, h.1)
with_argument_of signature (suc k) part (profiled_term_then t ts) h p = (h.0, with_argument_of signature k part ts h.1 p)

pub put_of : (signature : Signature) (path : List ℕ) (part t whole : ProfiledTerm) → IsOf signature t
    → IsOf signature part → profiled_put_at path part t ≡ Some whole → IsOf signature whole
put_of signature [] part t whole h p e = subst (λ (v : ProfiledTerm). IsOf signature v) (same_Some _ _ e) p
put_of signature (k ∷ path) part (profiled_variable n s) whole h p e = cc
put_of signature (k ∷ path) part (profiled_node f operation ts) whole h p e =
    let made = mapped (λ t. profiled_node f operation (with_profiled_argument k t ts))
    (option_and_then (λ t. profiled_put_at path part t) (profiled_argument_at k ts)) {y = whole} e in
    let found = chained (λ t. profiled_put_at path part t) (profiled_argument_at k ts) {y = made.0} made.1 in
    subst (λ (v : ProfiledTerm). IsOf signature v) made.2 (
      h.0,
      with_argument_of signature k made.0 ts h.1 (put_of signature path part found.0 made.0
          (argument_of signature k ts found.0 h.1 found.1) p found.2),
    )

with_argument_fits : (k : ℕ) (old part : ProfiledTerm) (ts : ProfiledTerms) (sorts : List ℕ) → FitArguments ts sorts
    → profiled_argument_at k ts ≡ Some old → head_sort part ≡ head_sort old → FitsProfiles part
    → FitArguments (with_profiled_argument k part ts) sorts
with_argument_fits k old part no_profiled_terms sorts h e same p = h
with_argument_fits k old part (profiled_term_then t ts) [] h e same p = absurd h
with_argument_fits zero old part (profiled_term_then t ts) (s ∷ ss) h e same p =
    (same ∙ ap head_sort (sym (same_Some _ _ e)) ∙ h.0, p, h.2)
with_argument_fits (suc k) old part (profiled_term_then t ts) (s ∷ ss) h e same p =
    (h.0, h.1, with_argument_fits k old part ts ss h.2 e same p)

-- a part of the same sort keeps the sort, and each operation its arguments
pub put_fits : (path : List ℕ) (part t old whole : ProfiledTerm) → FitsProfiles t → FitsProfiles part
    → profiled_subterm path t ≡ Some old → head_sort part ≡ head_sort old → profiled_put_at path part t ≡ Some whole
    → FitsProfiles whole × (head_sort whole ≡ head_sort t)
put_fits [] part t old whole h p found same e = (
  subst (λ (v : ProfiledTerm). FitsProfiles v) (same_Some _ _ e) p,
  ap head_sort (sym (same_Some _ _ e)) ∙ same ∙ ap head_sort (sym (same_Some _ _ found)),
)
put_fits (k ∷ path) part (profiled_variable n s) old whole h p found same e = cc
put_fits (k ∷ path) part (profiled_node f operation ts) old whole h p found same e =
    let made = mapped (λ t. profiled_node f operation (with_profiled_argument k t ts))
    (option_and_then (λ t. profiled_put_at path part t) (profiled_argument_at k ts)) {y = whole} e in
    let into = chained (λ t. profiled_put_at path part t) (profiled_argument_at k ts) {y = made.0} made.1 in
    let under = chained (λ t. profiled_subterm path t) (profiled_argument_at k ts) {y = old} found in
    let one : under.0 ≡ into.0 = same_Some _ _ (sym under.1 ∙ into.1) in
    let there : profiled_subterm path into.0 ≡ Some old = subst (λ (v : ProfiledTerm). profiled_subterm path v ≡ Some old) one under.2 in
    let below = put_fits path part into.0 old made.0 (argument_fits k ts operation.arguments into.0 h into.1) p there same into.2 in (
      subst (λ (v : ProfiledTerm). FitsProfiles v) made.2 (with_argument_fits k into.0 made.0 ts operation.arguments h into.1 below.1
          below.0),
      ap head_sort (sym made.2),
    )

-- ---- Lists of the code

-- the terms that a list of terms has, one by one
abbrev as_terms : List ProfiledTerm → ProfiledTerms
as_terms [] = no_profiled_terms
as_terms (t ∷ ts) = profiled_term_then t (as_terms ts)

as_terms_of : (xs : List Term) → as_terms (map profiled_of xs) ≡ all_profiled xs
as_terms_of [] = refl
as_terms_of (x ∷ xs) = ap (λ ts. profiled_term_then (profiled_of x) ts) (as_terms_of xs)

put_among : (xs : List Term) (i : ℕ) (t : ProfiledTerm) → i < length xs
    → as_terms (map profiled_of (take i xs) ++ t ∷ map profiled_of (drop (i + 1) xs)) ≡ with_profiled_argument i t (all_profiled xs)
put_among [] i t h = absurd (omega arith)
put_among (x ∷ xs) zero t h = ap (λ ts. profiled_term_then t ts) (as_terms_of xs)
put_among (x ∷ xs) (suc i) t h =
    let next : suc i + 1 ≡ suc (i + 1) = omega arith in
    ap (λ (k : ℕ). as_terms (map profiled_of (take (suc i) (x ∷ xs)) ++ t ∷ map profiled_of (drop k (x ∷ xs)))) next
    ∙ ap (λ ts. profiled_term_then (profiled_of x) ts) (put_among xs i t (omega (arith, h)))

-- the terms before a position, another one, and those after it
pub put_between : (xs made : List Term) (i : ℕ) (y : Term) → i < length xs
    → map profiled_of made ≡ map profiled_of (take i xs) ++ profiled_of y ∷ map profiled_of (drop (i + 1) xs)
    → all_profiled made ≡ with_profiled_argument i (profiled_of y) (all_profiled xs)
put_between xs made i y h e = sym (as_terms_of made) ∙ ap as_terms e ∙ put_among xs i (profiled_of y) h

rest_from : (n : ℕ) (xs : List Term) → take (length xs - n) (drop n xs) ≡ drop n xs
rest_from n xs = ap (λ (k : ℕ). take k (drop n xs)) (sym (length-drop n xs)) ∙ take-length (drop n xs)

pub put_pieces : (xs none first made more second whole : List Term) (i : ℕ) (y : Term) → none ≡ [] → first ≡ xs → second ≡ xs
    → map profiled_of made ≡ map profiled_of none ++ map profiled_of (take i first) → more ≡ made ++ y ∷ []
    → map profiled_of whole ≡ map profiled_of more ++ map profiled_of (take (length second - (i + 1)) (drop (i + 1) second))
    → map profiled_of whole ≡ map profiled_of (take i xs) ++ profiled_of y ∷ map profiled_of (drop (i + 1) xs)
put_pieces xs none first made more second whole i y nothing one two before pushed after =
    after
    ∙ (λ j. map profiled_of (pushed j) ++ map profiled_of (take (length (two j) - (i + 1)) (drop (i + 1) (two j))))
    ∙ ap (λ (ts : List Term). map profiled_of (made ++ y ∷ []) ++ map profiled_of ts) (rest_from (i + 1) xs)
    ∙ ap (λ (ts : List ProfiledTerm). ts ++ map profiled_of (drop (i + 1) xs)) (map-append profiled_of made (y ∷ []))
    ∙ append_assoc (map profiled_of made) (profiled_of y ∷ []) (map profiled_of (drop (i + 1) xs))
    ∙ ap (λ (ts : List ProfiledTerm). ts ++ profiled_of y ∷ map profiled_of (drop (i + 1) xs))
    (before ∙ (λ j. map profiled_of (nothing j) ++ map profiled_of (take i (one j))))

argument_within : (xs : List Term) (i : ℕ) (x : Term) → i < length xs → x ≡ get_or xs i x
    → profiled_argument_at i (all_profiled xs) ≡ Some (profiled_of x)
argument_within [] i x h e = absurd (omega arith)
argument_within (y ∷ ys) zero x h e = ap (λ (z : Term). Some (profiled_of z)) (sym e)
argument_within (y ∷ ys) (suc i) x h e = argument_within ys i x (omega arith) e

argument_past : (xs : List Term) (i : ℕ) → length xs ≤ i → profiled_argument_at i (all_profiled xs) ≡ None
argument_past [] i h = refl
argument_past (y ∷ ys) zero h = absurd (omega arith)
argument_past (y ∷ ys) (suc i) h = argument_past ys i (omega arith)

some_or_none : (o : Option ProfiledTerm) → option_and_then (λ (t : ProfiledTerm). Some t) o ≡ o
some_or_none None = refl
some_or_none (Some t) = refl

-- what a look-up in the arguments gives is the subterm at that position
pub argument_found : (f : ℕ) (operation : Operation) (xs : List Term) (i : ℕ) (r : Option (Bor Term))
    → is_some r ≡ ltb i (length xs) → IfSome r (λ x. x.now ≡ get_or xs i x.now)
    → option_map (λ t. profiled_of t.now) r ≡ profiled_subterm (i ∷ []) (profiled_node f operation (all_profiled xs))
argument_found f operation xs i None some is =
    sym (some_or_none (profiled_argument_at i (all_profiled xs)) ∙ argument_past xs i (ltb-false i (length xs) (sym some)))
argument_found f operation xs i (Some x) some is =
    sym (some_or_none (profiled_argument_at i (all_profiled xs)) ∙ argument_within xs i x.now (ltb-true i (length xs) (sym some)) is)

no_put : (k : ℕ) (rest : List ℕ) (part : ProfiledTerm) (f : ℕ) (operation : Operation) (ts : ProfiledTerms)
    → profiled_argument_at k ts ≡ None
    → None ≡ profiled_put_at (k ∷ rest) part (profiled_node f operation ts)
no_put k rest part f operation ts none = rw none refl

put_found : (k : ℕ) (rest : List ℕ) (part : ProfiledTerm) (f : ℕ) (operation : Operation) (ts : ProfiledTerms) (a : ProfiledTerm)
    (o : Option ProfiledTerm)
    → profiled_argument_at k ts ≡ Some a → o ≡ profiled_put_at rest part a
    → option_map (λ (t : ProfiledTerm). profiled_node f operation (with_profiled_argument k t ts)) o
    ≡ profiled_put_at (k ∷ rest) part (profiled_node f operation ts)
put_found k rest part f operation ts a o found is =
    rw found (ap (option_map (λ (t : ProfiledTerm). profiled_node f operation (with_profiled_argument k t ts))) is)

-- there is no argument at the first position
pub no_put_past : (path : List ℕ) (part : ProfiledTerm) (f : ℕ) (operation : Operation) (xs : List Term) → 1 ≤ length path
    → length xs ≤ get_or path 0 0 → None ≡ profiled_put_at path part (profiled_node f operation (all_profiled xs))
no_put_past path part f operation xs h past =
    subst (λ (p : List ℕ). None ≡ profiled_put_at p part (profiled_node f operation (all_profiled xs))) (sym (path_parts path h))
    (no_put (get_or path 0 0) (take (length path - 1) (drop 1 path)) part f operation (all_profiled xs)
    (argument_past xs (get_or path 0 0) past))

-- what is put into the argument at the first position
pub put_into_argument : (path : List ℕ) (part : ProfiledTerm) (f : ℕ) (operation : Operation) (xs : List Term) (x : Term)
    (o : Option ProfiledTerm)
    → 1 ≤ length path → get_or path 0 0 < length xs → x ≡ get_or xs (get_or path 0 0) x
    → o ≡ profiled_put_at (take (length path - 1) (drop 1 path)) part (profiled_of x)
    → option_map (λ (t : ProfiledTerm). profiled_node f operation (with_profiled_argument (get_or path 0 0) t (all_profiled xs))) o
    ≡ profiled_put_at path part (profiled_node f operation (all_profiled xs))
put_into_argument path part f operation xs x o h within is found =
    subst (λ (p : List ℕ). option_map (λ (t : ProfiledTerm). profiled_node f operation
    (with_profiled_argument (get_or path 0 0) t (all_profiled xs))) o
    ≡ profiled_put_at p part (profiled_node f operation (all_profiled xs))) (sym (path_parts path h))
    (put_found (get_or path 0 0) (take (length path - 1) (drop 1 path)) part f operation (all_profiled xs) (profiled_of x) o
    (argument_within xs (get_or path 0 0) x within is) found)

-- ---- Where sorts differ nothing is put, and where they agree what the path leads to

pub replaced_at : (path : List ℕ) (part t old : ProfiledTerm) → profiled_subterm path t ≡ Some old
    → head_sort old ≡ head_sort part → profiled_put_at path part t ≡ with_part_replaced path part t
replaced_at path part t old found same =
    rw (found, (Decides-eqb (head_sort old) (head_sort part)).1 same) refl

-- ---- What an answer says of the path

-- where a path leads to a subterm something can be put
put_exists : (path : List ℕ) (part t old : ProfiledTerm) → profiled_subterm path t ≡ Some old
    → (whole : ProfiledTerm) × (profiled_put_at path part t ≡ Some whole)
put_exists [] part t old found = (part, refl)
put_exists (k ∷ path) part (profiled_variable n s) old found = cc
put_exists (k ∷ path) part (profiled_node f operation ts) old found =
    let under = chained (λ t. profiled_subterm path t) (profiled_argument_at k ts) found in
    let below = put_exists path part under.0 old under.2 in (
      profiled_node f operation (with_profiled_argument k below.0 ts),
      sym (put_found k path part f operation ts under.0 (Some below.0) under.1 (sym below.1)),
    )

-- the parts of a replacement
replaced_some : (path : List ℕ) (part t whole : ProfiledTerm) → with_part_replaced path part t ≡ Some whole
    → LeadsToSort path part t × (profiled_put_at path part t ≡ Some whole)
replaced_some path part t whole e =
    let found = chained (where_sorts_agree part (profiled_put_at path part t)) (profiled_subterm path t) e in
    go found.0 found.1 (nat_eq (head_sort found.0) (head_sort part)) refl found.2
  where
    go : (old : ProfiledTerm) → profiled_subterm path t ≡ Some old → (b : Bool) → nat_eq (head_sort old) (head_sort part) ≡ b
        → (if b then profiled_put_at path part t else None) ≡ Some whole
        → LeadsToSort path part t × (profiled_put_at path part t ≡ Some whole)
    go old there true test h =
        (record { old = old; is_there = there; one_sort = (Decides-eqb (head_sort old) (head_sort part)).0 test }, h)
    go old there false test h = cc

-- none exactly where the path leads to no subterm of the sort
pub replaced_none : (path : List ℕ) (part t : ProfiledTerm) (o : Option Sorted)
    → option_map (λ w. profiled_in w) o ≡ with_part_replaced path part t
    → (o ≡ None) ↔ (¬ LeadsToSort path part t)
replaced_none path part t None e = (
  (λ none leads.
      let there = put_exists path part t leads.old leads.is_there in
      let some : None ≡ Some there.0 = e ∙ sym (replaced_at path part t leads.old leads.is_there leads.one_sort) ∙ there.1 in cc),
  (λ no. refl),
)
replaced_none path part t (Some w) e = (
  (λ none. cc),
  (λ no. absurd (no (replaced_some path part t (profiled_in w) (sym e)).0)),
)

-- and the replacement of the definition without profiles where there is one
pub replaced_plain : (path : List ℕ) (part t : ProfiledTerm) (o : Option Sorted)
    → option_map (λ w. profiled_in w) o ≡ with_part_replaced path part t
    → IfSome o (λ w. put_at path (bare part) (bare t) ≡ Some (bare (profiled_in w)))
replaced_plain path part t None e = tt
replaced_plain path part t (Some w) e =
    sym (put_bare path part t) ∙ ap (option_map bare) (replaced_some path part t (profiled_in w) (sym e)).1
