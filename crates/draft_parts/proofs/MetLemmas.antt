-- The drafts that labels meet, one by one, and what is left of the right drafts for the later left ones.
use Rattle.std.proofs.Common.{◌≡◌, ◌<◌, ◌++◌, ℕ, zero, suc, ◌+◌, List, [], ◌∷◌, map, filter_map, length, drop, set, reverse, get_or, None, Some, Bool, true, false, if◌then◌else◌, refl, ap, sym, ◌∙◌, subst, add-one, append_assoc, append-nil, arith}
use Rattle.std.specs.List.{cons_option}
use Rattle.std.proofs.Math.Seq.{drop-cons}
use Rattle.std.proofs.lemmas.List.{map-append, reverse-append, length-map, drop-set-lt, length-set}
use Rattle.std.proofs.lemmas.Bool.{or_parts}
use Rattle.lotos_base.specs.Signature.{Signature}
use Rattle.lotos_base.specs.Substitution.{Substitution}
use Rattle.behaviour_semantics.specs.Behaviour.{SynchronisationSet}
use Rattle.behaviour_semantics.specs.Draft as plain
use Rattle.behaviour_semantics.specs.Join.{raised_from}
use Rattle.behaviour_semantics.specs.WellFormed.{Every}
use Rattle.behaviour_semantics.proofs.ListLemmas.{Every-append}
use Rattle.behaviour_tree.specs.declared.moves.Label.{Label}
use Rattle.behaviour_tree.specs.declared.moves.Label.TheVariants.{Inner, Gate, Exit}
use Rattle.sort_terms.specs.SortedView.{term_in}
use Rattle.event_offers.specs.OfferView.{plain_draft}
use Rattle.event_offers.specs.declared.drafts.Draft.{Draft}
use Rattle.draft_parts.specs.DraftTerms.{HasTermsOf}
use Rattle.draft_parts.specs.Meeting.{meet_told}
use Rattle.draft_parts.proofs.MeetingLemmas.{together_told}
use Rattle.draft_parts.specs.Lists.{both_lists, meet_each, plain_drafts}
use Rattle.draft_parts.specs.MetDrafts.{AreSameFor, both_with, IsSameFor, is_met_by, met_of}

-- ---- Over a signature these are the drafts that the rule makes.
met_each : (signature : Signature) (meet : SynchronisationSet) (values : Substitution) (left : Draft) (rights : List Draft)
    → HasTermsOf signature left → Every (HasTermsOf signature) rights
    → map (both_with (plain_draft left) values) (met_of meet left.label rights)
    ≡ filter_map (meet_each signature meet values (plain_draft left)) (plain_drafts rights)
met_each signature meet values left [] h k = refl
met_each signature meet values left (right ∷ rights) h k =
    go (meet_told meet left.label right.label) (met_each signature meet values left rights h k.1)
    ∙ ap (λ (b : Bool). cons_option (if b then Some (both_with (plain_draft left) values (plain_draft right)) else None)
    (filter_map (meet_each signature meet values (plain_draft left)) (plain_drafts rights)))
    (sym (together_told signature meet left.label right.label h.values k.0.values))
  where
    go : (b : Bool)
        → map (both_with (plain_draft left) values) (met_of meet left.label rights)
        ≡ filter_map (meet_each signature meet values (plain_draft left)) (plain_drafts rights)
        → map (both_with (plain_draft left) values)
        (if b then plain_draft right ∷ met_of meet left.label rights else met_of meet left.label rights)
        ≡ cons_option (if b then Some (both_with (plain_draft left) values (plain_draft right)) else None)
        (filter_map (meet_each signature meet values (plain_draft left)) (plain_drafts rights))
    go true e = ap (λ (ds : List plain.Draft). both_with (plain_draft left) values (plain_draft right) ∷ ds) e
    go false e = e

-- what each left draft makes with those that it meets
abbrev pub met_lists : SynchronisationSet → ℕ → List Draft → List Draft → List plain.Draft
met_lists meet first [] rights = []
met_lists meet first (left ∷ lefts) rights =
    map (both_with (plain_draft left) (raised_from first (length left.leaves.items))) (met_of meet left.label rights)
    ++ met_lists meet first lefts rights

met_are_both : (signature : Signature) (meet : SynchronisationSet) (first : ℕ) (lefts rights : List Draft)
    → Every (HasTermsOf signature) lefts → Every (HasTermsOf signature) rights
    → met_lists meet first lefts rights ≡ both_lists signature meet first (plain_drafts lefts) (plain_drafts rights)
met_are_both signature meet first [] rights h k = refl
met_are_both signature meet first (left ∷ lefts) rights h k =
    ap (λ (ds : List plain.Draft). ds ++ met_lists meet first lefts rights)
    (met_each signature meet (raised_from first (length left.leaves.items)) left rights h.0 k
    ∙ ap (λ (n : ℕ). filter_map (meet_each signature meet (raised_from first n) (plain_draft left)) (plain_drafts rights))
    (sym (length-map left.leaves.items term_in)))
    ∙ ap (λ (ds : List plain.Draft). filter_map (meet_each signature meet (raised_from first (length (plain_draft left).leaves))
    (plain_draft left)) (plain_drafts rights) ++ ds) (met_are_both signature meet first lefts rights h.1 k)

-- ---- The left drafts are taken one by one from the end of the list, which was reversed.
pub Every-reverse : {X : Type 0} (P : X → Type 0) (xs : List X) → Every P xs → Every P (reverse xs)
Every-reverse P [] h = tt
Every-reverse P (x ∷ xs) h =
    subst (λ ys. Every P ys) (sym (reverse-append (x ∷ []) xs))
    (Every-append P (reverse xs) (x ∷ []) (Every-reverse P xs h.1) (h.0, tt))

lists_same : (meet : SynchronisationSet) (first : ℕ) (lefts rights others : List Draft) → Every (AreSameFor meet rights others) lefts
    → met_lists meet first lefts others ≡ met_lists meet first lefts rights
lists_same meet first [] rights others h = refl
lists_same meet first (left ∷ lefts) rights others h =
    ap (λ (ds : List plain.Draft). map (both_with (plain_draft left) (raised_from first (length left.leaves.items))) ds
    ++ met_lists meet first lefts others) h.0
    ∙ ap (λ (ds : List plain.Draft). map (both_with (plain_draft left) (raised_from first (length left.leaves.items)))
    (met_of meet left.label rights) ++ ds) (lists_same meet first lefts rights others h.1)

pub record AreHalfMet (meet : SynchronisationSet) (first : ℕ) (lefts rights rest others made : List Draft) : Type 0 where
  pub same : plain_drafts made ++ met_lists meet first (reverse rest) others ≡ met_lists meet first lefts rights
  pub over : (signature : Signature) → Every (HasTermsOf signature) lefts → Every (HasTermsOf signature) rights
      → Every (HasTermsOf signature) made × Every (HasTermsOf signature) (reverse rest) × Every (HasTermsOf signature) others

-- what is left before a draft is taken
before_taken : (rest left : List Draft) (d : Draft) → rest ≡ left ++ d ∷ [] → reverse rest ≡ d ∷ reverse left
before_taken rest left d e = ap reverse e ∙ reverse-append left (d ∷ [])

pub half_more : (meet : SynchronisationSet) (first by : ℕ) (lefts rights rest left others kept made more met : List Draft) (d : Draft)
    → rest ≡ left ++ d ∷ [] → by ≡ length d.leaves.items
    → plain_drafts met ≡ met_of meet d.label others
    → plain_drafts more ≡ plain_drafts made ++ map (both_with (plain_draft d) (raised_from first by)) (plain_drafts met)
    → Every (AreSameFor meet others kept) left
    → ((signature : Signature) → HasTermsOf signature d → Every (HasTermsOf signature) others → Every (HasTermsOf signature) made
    → Every (HasTermsOf signature) more)
    → ((signature : Signature) → Every (HasTermsOf signature) others → Every (HasTermsOf signature) kept)
    → AreHalfMet meet first lefts rights rest others made → AreHalfMet meet first lefts rights left kept more
half_more meet first by lefts rights rest left others kept made more met d e count is m same over kept_over h =
    let back : reverse rest ≡ d ∷ reverse left = before_taken rest left d e in
    let pairs : ℕ → List plain.Draft → List plain.Draft =
    λ (n : ℕ) (ds : List plain.Draft). map (both_with (plain_draft d) (raised_from first n)) ds in
    record {
      same = ap (λ (ds : List plain.Draft). ds ++ met_lists meet first (reverse left) kept)
          (m ∙ ap (λ (ds : List plain.Draft). plain_drafts made ++ pairs by ds) is
          ∙ ap (λ (n : ℕ). plain_drafts made ++ pairs n (met_of meet d.label others)) count)
          ∙ (append_assoc (plain_drafts made) (pairs (length d.leaves.items) (met_of meet d.label others))
          (met_lists meet first (reverse left) kept)
          ∙ (ap (λ (ds : List plain.Draft). plain_drafts made ++ (pairs (length d.leaves.items) (met_of meet d.label others) ++ ds))
          (lists_same meet first (reverse left) others kept (Every-reverse (AreSameFor meet others kept) left same))
          ∙ (ap (λ (ds : List Draft). plain_drafts made ++ met_lists meet first ds others) (sym back) ∙ h.same)));
      over = λ signature k l.
          let before = h.over signature k l in
          let lefts_over : Every (HasTermsOf signature) (d ∷ reverse left) =
          subst (λ (ds : List Draft). Every (HasTermsOf signature) ds) back before.1 in
          (over signature lefts_over.0 before.2 before.0, lefts_over.1, kept_over signature before.2);
    }

pub half_done : (meet : SynchronisationSet) (first : ℕ) (lefts rights rest others made : List Draft) (signature : Signature) → rest ≡ []
    → AreHalfMet meet first lefts rights rest others made → Every (HasTermsOf signature) lefts → Every (HasTermsOf signature) rights
    → plain_drafts made ≡ both_lists signature meet first (plain_drafts lefts) (plain_drafts rights)
half_done meet first lefts rights rest others made signature e h k l =
    sym (append-nil (plain_drafts made))
    ∙ (ap (λ (ds : List Draft). plain_drafts made ++ met_lists meet first (reverse ds) others) (sym e)
    ∙ (h.same ∙ met_are_both signature meet first lefts rights k l))

-- ---- The right drafts that a label meets, by an index.
met_cons : (meet : SynchronisationSet) (label : Label) (d : Draft) (drafts : List Draft)
    → met_of meet label (d ∷ drafts) ≡ met_of meet label (d ∷ []) ++ met_of meet label drafts
met_cons meet label d drafts = go (meet_told meet label d.label)
  where
    go : (b : Bool) → (if b then plain_draft d ∷ met_of meet label drafts else met_of meet label drafts)
        ≡ (if b then plain_draft d ∷ [] else []) ++ met_of meet label drafts
    go true = refl
    go false = refl

met_set : (meet : SynchronisationSet) (label : Label) (drafts : List Draft) (i : ℕ) (d e : Draft) → i < length drafts
    → d ≡ get_or drafts i d → met_of meet label (e ∷ []) ≡ met_of meet label (d ∷ [])
    → met_of meet label (set drafts i e) ≡ met_of meet label drafts
met_set meet label [] i d e within is same = absurd (omega arith)
met_set meet label (x ∷ drafts) zero d e within is same =
    met_cons meet label e drafts
    ∙ (ap (λ (ds : List plain.Draft). ds ++ met_of meet label drafts)
    (same ∙ ap (λ (y : Draft). met_of meet label (y ∷ [])) is)
    ∙ sym (met_cons meet label x drafts))
met_set meet label (x ∷ drafts) (suc i) d e within is same =
    met_cons meet label x (set drafts i e)
    ∙ (ap (λ (ds : List plain.Draft). met_of meet label (x ∷ []) ++ ds) (met_set meet label drafts i d e (omega arith) is same)
    ∙ sym (met_cons meet label x drafts))

pub over_set : {X : Type 0} (P : X → Type 0) (items : List X) (i : ℕ) (e : X) → Every P items → P e → Every P (set items i e)
over_set P [] i e h p = tt
over_set P (x ∷ items) zero e h p = (p, h.1)
over_set P (x ∷ items) (suc i) e h p = (h.0, over_set P items i e h.1 p)

pub over_at : {X : Type 0} (P : X → Type 0) (items : List X) (i : ℕ) (x : X) → i < length items → x ≡ get_or items i x
    → Every P items → P x
over_at P [] i x within is h = absurd (let never : i < 0 = within in omega arith)
over_at P (y ∷ items) zero x within is h = subst P (sym is) h.0
over_at P (y ∷ items) (suc i) x within is h = over_at P items i x (omega arith) is h.1

kept_more : (meet : SynchronisationSet) (given now : List Draft) (i : ℕ) (d e : Draft) (later : List Draft) → i < length now
    → d ≡ get_or now i d → Every (IsSameFor meet d e) later → Every (AreSameFor meet given now) later
    → Every (AreSameFor meet given (set now i e)) later
kept_more meet given now i d e [] within is one all = tt
kept_more meet given now i d e (left ∷ later) within is one all = (
  met_set meet left.label now i d e within is one.0 ∙ all.0,
  kept_more meet given now i d e later within is one.1 all.1,
)

pub record AreMetSoFar (meet : SynchronisationSet) (label : Label) (later given now made : List Draft) (i : ℕ) : Type 0 where
  pub same : plain_drafts made ++ met_of meet label (drop i now) ≡ met_of meet label given
  pub count : length now ≡ length given
  pub over : (signature : Signature) → Every (HasTermsOf signature) given
      → Every (HasTermsOf signature) made × Every (HasTermsOf signature) now
  pub kept : Every (AreSameFor meet given now) later

all_same : (meet : SynchronisationSet) (given later : List Draft) → Every (AreSameFor meet given given) later
all_same meet given [] = tt
all_same meet given (left ∷ later) = (refl, all_same meet given later)

pub here_is : (drafts : List Draft) (i : ℕ) (d : Draft) → i < length drafts → d ≡ get_or drafts i d
    → drop i drafts ≡ d ∷ drop (suc i) drafts
here_is drafts i d within is = drop-cons drafts i d within ∙ ap (λ (y : Draft). y ∷ drop (suc i) drafts) (sym is)

pub met_passed : (meet : SynchronisationSet) (label : Label) (later given now made : List Draft) (i : ℕ) (d : Draft) → i < length now
    → d ≡ get_or now i d → meet_told meet label d.label ≡ false → AreMetSoFar meet label later given now made i
    → AreMetSoFar meet label later given now made (i + 1)
met_passed meet label later given now made i d within is apart h = record {
  same = ap (λ (j : ℕ). plain_drafts made ++ met_of meet label (drop j now)) (add-one i)
      ∙ (ap (λ (b : Bool). plain_drafts made
      ++ (if b then plain_draft d ∷ met_of meet label (drop (suc i) now) else met_of meet label (drop (suc i) now))) (sym apart)
      ∙ (ap (λ (ds : List Draft). plain_drafts made ++ met_of meet label ds) (sym (here_is now i d within is)) ∙ h.same));
  count = h.count;
  over = h.over;
  kept = h.kept;
}

pub met_more : (meet : SynchronisationSet) (label : Label) (later given now next made more : List Draft) (i : ℕ) (d e x : Draft)
    → i < length now → d ≡ get_or now i d → next ≡ set now i e → more ≡ made ++ x ∷ [] → meet_told meet label d.label ≡ true
    → plain_draft x ≡ plain_draft d
    → ((signature : Signature) → HasTermsOf signature d → HasTermsOf signature x)
    → ((signature : Signature) → HasTermsOf signature d → HasTermsOf signature e)
    → Every (IsSameFor meet d e) later
    → AreMetSoFar meet label later given now made i → AreMetSoFar meet label later given next more (i + 1)
met_more meet label later given now next made more i d e x within is n m meets plain_is taken_over left_over one h =
    let further : i < i + 1 = omega arith in
    let rest : drop (i + 1) next ≡ drop (suc i) now =
    ap (λ (ds : List Draft). drop (i + 1) ds) n ∙ (drop-set-lt (i + 1) now i e further ∙ ap (λ (j : ℕ). drop j now) (add-one i)) in
    record {
      same = ap (λ (ds : List Draft). plain_drafts ds ++ met_of meet label (drop (i + 1) next)) m
          ∙ (ap (λ (ds : List plain.Draft). ds ++ met_of meet label (drop (i + 1) next)) (map-append plain_draft made (x ∷ []))
          ∙ (append_assoc (plain_drafts made) (plain_draft x ∷ []) (met_of meet label (drop (i + 1) next))
          ∙ (ap (λ (y : plain.Draft). plain_drafts made ++ (y ∷ met_of meet label (drop (i + 1) next))) plain_is
          ∙ (ap (λ (ds : List Draft). plain_drafts made ++ (plain_draft d ∷ met_of meet label ds)) rest
          ∙ (ap (λ (b : Bool). plain_drafts made
          ++ (if b then plain_draft d ∷ met_of meet label (drop (suc i) now) else met_of meet label (drop (suc i) now))) (sym meets)
          ∙ (ap (λ (ds : List Draft). plain_drafts made ++ met_of meet label ds) (sym (here_is now i d within is)) ∙ h.same))))));
      count = ap (λ (ds : List Draft). length ds) n ∙ (length-set now i e ∙ h.count);
      over = λ signature k.
          let before = h.over signature k in
          let one_over : HasTermsOf signature d = over_at (HasTermsOf signature) now i d within is before.1 in (
            subst (λ (ds : List Draft). Every (HasTermsOf signature) ds) (sym m)
                (Every-append (HasTermsOf signature) made (x ∷ []) before.0 (taken_over signature one_over, tt)),
            subst (λ (ds : List Draft). Every (HasTermsOf signature) ds) (sym n)
                (over_set (HasTermsOf signature) now i e before.1 (left_over signature one_over)),
          );
      kept = subst (λ (ds : List Draft). Every (AreSameFor meet given ds) later) (sym n)
          (kept_more meet given now i d e later within is one h.kept);
    }

-- what stands at a place is one draft
pub one_at : (drafts : List Draft) (i : ℕ) (d e : Draft) → i < length drafts → d ≡ get_or drafts i d → e ≡ get_or drafts i e → d ≡ e
one_at [] i d e within is at = absurd (omega arith)
one_at (x ∷ drafts) zero d e within is at = is ∙ sym at
one_at (x ∷ drafts) (suc i) d e within is at = one_at drafts i d e (omega arith) is at

-- ---- A right draft that no later left one meets, and none of which is left.
pub copy_same : (meet : SynchronisationSet) (right : Draft) (later : List Draft) → Every (IsSameFor meet right right) later
copy_same meet right later = all_same meet (right ∷ []) later

inner_unmet : (meet : SynchronisationSet) (label : Label) (d : Draft) → d.label ≡ Inner → met_of meet label (d ∷ []) ≡ []
inner_unmet meet label d e = ap (λ (l : Label). if meet_told meet label l then plain_draft d ∷ [] else []) e ∙ go label
  where
    go : (l : Label) → (if meet_told meet l Inner then plain_draft d ∷ [] else []) ≡ []
    go Inner = refl
    go (Gate g values) = refl
    go (Exit values) = refl

pub taken_same : (meet : SynchronisationSet) (right left_ : Draft) (later : List Draft) → left_.label ≡ Inner
    → is_met_by meet right.label later ≡ false → Every (IsSameFor meet right left_) later
taken_same meet right left_ [] inner e = tt
taken_same meet right left_ (left ∷ later) inner e =
    let parts = or_parts (meet_told meet left.label right.label) (is_met_by meet right.label later) e in (
      inner_unmet meet left.label left_ inner
          ∙ sym (ap (λ (b : Bool). if b then plain_draft right ∷ [] else []) parts.0),
      taken_same meet right left_ later inner parts.1,
    )

-- ---- Copies of the left draft with one right draft after the other.
pub record AreCopiedSoFar (left : Draft) (values : Substitution) (before given rest made : List Draft) : Type 0 where
  pub same : plain_drafts made ++ map (both_with (plain_draft left) values) (plain_drafts rest)
      ≡ plain_drafts before ++ map (both_with (plain_draft left) values) (plain_drafts given)
  pub over : (signature : Signature) → HasTermsOf signature left → Every (HasTermsOf signature) given
      → Every (HasTermsOf signature) before → Every (HasTermsOf signature) made × Every (HasTermsOf signature) rest

pub copied_begun : (left : Draft) (values : Substitution) (before given : List Draft) → AreCopiedSoFar left values before given given before
copied_begun left values before given = record { same = refl; over = λ signature h k l. (l, k) }

pub copied_more : (left copy : Draft) (values : Substitution) (before given rest next made more : List Draft) (right : Draft)
    → rest ≡ right ∷ next → plain_draft copy ≡ plain_draft left
    → plain_drafts more ≡ plain_drafts made ++ both_with (plain_draft copy) values (plain_draft right) ∷ []
    → ((signature : Signature) → HasTermsOf signature left → HasTermsOf signature copy)
    → ((signature : Signature) → HasTermsOf signature copy → HasTermsOf signature right → Every (HasTermsOf signature) made
    → Every (HasTermsOf signature) more)
    → AreCopiedSoFar left values before given rest made → AreCopiedSoFar left values before given next more
copied_more left copy values before given rest next made more right e is m copied_over over h = record {
  same = ap (λ (ds : List plain.Draft). ds ++ map (both_with (plain_draft left) values) (plain_drafts next)) m
      ∙ (append_assoc (plain_drafts made) (both_with (plain_draft copy) values (plain_draft right) ∷ [])
      (map (both_with (plain_draft left) values) (plain_drafts next))
      ∙ (ap (λ (d : plain.Draft). plain_drafts made
      ++ (both_with d values (plain_draft right) ∷ map (both_with (plain_draft left) values) (plain_drafts next))) is
      ∙ (ap (λ (ds : List Draft). plain_drafts made ++ map (both_with (plain_draft left) values) (plain_drafts ds)) (sym e) ∙ h.same)));
  over = λ signature k l b.
      let done = h.over signature k l b in
      let left_over : Every (HasTermsOf signature) (right ∷ next) =
      subst (λ (ds : List Draft). Every (HasTermsOf signature) ds) e done.1 in
      (over signature (copied_over signature k) left_over.0 done.0, left_over.1);
}

no_more : (rest : List Draft) → length rest ≡ 0 → rest ≡ []
no_more [] e = refl
no_more (d ∷ rest) e = absurd (omega arith)

pub copied_done : (left : Draft) (values : Substitution) (before given rest made : List Draft) → length rest ≡ 0
    → AreCopiedSoFar left values before given rest made
    → plain_drafts made ≡ plain_drafts before ++ map (both_with (plain_draft left) values) (plain_drafts given)
copied_done left values before given rest made none h =
    sym (append-nil (plain_drafts made))
    ∙ (ap (λ (ds : List Draft). plain_drafts made ++ map (both_with (plain_draft left) values) (plain_drafts ds)) (sym (no_more rest none))
    ∙ h.same)

-- ---- The last one is taken first.
pub last_behind : (left : Draft) (values : Substitution) (rights rest : List Draft) (last : Draft) (before made more : List plain.Draft)
    → rights ≡ rest ++ last ∷ [] → made ≡ before ++ map (both_with (plain_draft left) values) (plain_drafts rest)
    → more ≡ made ++ both_with (plain_draft left) values (plain_draft last) ∷ []
    → more ≡ before ++ map (both_with (plain_draft left) values) (plain_drafts rights)
last_behind left values rights rest last before made more e m n =
    n ∙ (ap (λ (ds : List plain.Draft). ds ++ both_with (plain_draft left) values (plain_draft last) ∷ []) m
    ∙ (append_assoc before (map (both_with (plain_draft left) values) (plain_drafts rest))
    (both_with (plain_draft left) values (plain_draft last) ∷ [])
    ∙ ap (λ (ds : List plain.Draft). before ++ ds)
    (sym (map-append (both_with (plain_draft left) values) (plain_drafts rest) (plain_draft last ∷ []))
    ∙ ap (map (both_with (plain_draft left) values)) (sym (map-append plain_draft rest (last ∷ []))
    ∙ ap plain_drafts (sym e)))))

pub last_over : (P : Draft → Type 0) (rights rest : List Draft) (last : Draft) → rights ≡ rest ++ last ∷ [] → Every P rights
    → Every P rest × P last
last_over P rights rest last e h = go rest (subst (λ (ds : List Draft). Every P ds) e h)
  where
    go : (ds : List Draft) → Every P (ds ++ last ∷ []) → Every P ds × P last
    go [] k = (tt, k.0)
    go (d ∷ ds) k = let others = go ds k.1 in ((k.0, others.0), others.1)

pub one_over : (signature : Signature) (made more : List Draft) (d : Draft) → more ≡ made ++ d ∷ [] → Every (HasTermsOf signature) made
    → HasTermsOf signature d → Every (HasTermsOf signature) more
one_over signature made more d e h k =
    subst (λ (ds : List Draft). Every (HasTermsOf signature) ds) (sym e)
    (Every-append (HasTermsOf signature) made (d ∷ []) h (k, tt))

pub one_behind : (made more : List Draft) (d : Draft) (made_of : plain.Draft) → more ≡ made ++ d ∷ [] → plain_draft d ≡ made_of
    → plain_drafts more ≡ plain_drafts made ++ made_of ∷ []
one_behind made more d made_of e is =
    ap plain_drafts e
    ∙ (map-append plain_draft made (d ∷ []) ∙ ap (λ (x : plain.Draft). plain_drafts made ++ x ∷ []) is)
