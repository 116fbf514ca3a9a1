-- Faults of the names of types and their causes.
use Rattle.std.proofs.Common.{◌≡◌, ◌↔◌, ◌<◌, ℕ, zero, suc, Bool, true, false, if◌then◌else◌, List, [], ◌∷◌, ◌++◌, Option, None, Some, refl, ap, sym, ◌∙◌, subst, arith, slice_get}
use Rattle.std.proofs.lemmas.Option.{same_Some}
use Rattle.std.proofs.lemmas.Map.Keys.{any_passes_from_place}
use Rattle.lotos_base.proofs.Bytes.{same_bytes, bytes_same}
use Rattle.lotos_base.proofs.Options.{none_and_some, none_unless_some}
use Rattle.lotos_base.specs.Names.{folded}
use Rattle.lotos_base.specs.WrittenTerm.{PlacedName}
use Rattle.lotos_base.proofs.Tests.{list_any-at}
use Rattle.type_definitions.specs.DeclaredTypes.{DeclaredType, mentions_in, is_type_named, is_type_name}
use Rattle.type_definitions.specs.MentionFaults.{MentionFault, double_type, unknown_type, second_declaration, unknown_among, unknown_mention, earlier_of_two, AreDeclaredOnce, AreAllKnown}
use Rattle.type_flatten.specs.FirstCause.{IsNowhere, FirstAlong, at_once, further_on, stays, and_also}
use Rattle.type_flatten.specs.NameCauses.{NameCause, NamesType, IsDeclaredAgain, IsMentionOfNone, UnknownOf}
use Rattle.type_flatten.proofs.CauseLemmas.{Decides}

-- ---- Steps that change nothing

module _ {F S D : Type 0} (Is : S → D → F → Type 0) (state : S) where
  -- the step at this position has the cause, and none before it
  pub record IsFirstAt (ds : List D) (fault : F) : Type 0 where
    pub i : ℕ
    pub d : D
    pub there : slice_get ds i ≡ Some d
    pub is : Is state d fault
    pub none_before : (k : ℕ) (e : D) → k < i → slice_get ds k ≡ Some e → IsNowhere (Is state e)

  pub along_at : (ds : List D) (fault : F) (i : ℕ) (d : D) → slice_get ds i ≡ Some d → Is state d fault
      → ((k : ℕ) (e : D) → k < i → slice_get ds k ≡ Some e → IsNowhere (Is state e)) → FirstAlong Is stays state ds fault
  along_at [] fault i d there is none = absurd (cc there)
  along_at (x ∷ xs) fault zero d there is none =
      at_once (subst (λ (y : D). Is state y fault) (sym (same_Some x d there)) is)
  along_at (x ∷ xs) fault (suc i) d there is none =
      further_on (none 0 x (omega arith) refl)
      (along_at xs fault i d there is (λ k e less at. none (suc k) e (omega (arith, less)) at))

  pub at_along : (ds : List D) (fault : F) → FirstAlong Is stays state ds fault → IsFirstAt ds fault
  at_along _ fault (at_once {d = d} is) =
      record { i = 0; d = d; there = refl; is = is; none_before = λ k e less at. absurd (omega (arith, less)) }
  at_along _ fault (further_on {d = x} {ds = xs} none rest) =
      let first = at_along xs fault rest in
      record {
        i = suc first.i;
        d = first.d;
        there = first.there;
        is = first.is;
        none_before = λ k e less at. before first.i first.none_before k e less at;
      }
    where
      before : (i : ℕ) → ((k : ℕ) (e : D) → k < i → slice_get xs k ≡ Some e → IsNowhere (Is state e))
          → (k : ℕ) (e : D) → k < suc i → slice_get (x ∷ xs) k ≡ Some e → IsNowhere (Is state e)
      before i all zero e less at = subst (λ (y : D). IsNowhere (Is state y)) (same_Some x e at) none
      before i all (suc k) e less at = all k e (omega (arith, less)) at

  -- where no step is the first with a cause, none has one
  pub nowhere_along : (ds : List D) → IsNowhere (FirstAlong Is stays state ds) → (k : ℕ) (d : D) → slice_get ds k ≡ Some d
      → IsNowhere (Is state d)
  nowhere_along [] none k d at = absurd (cc at)
  nowhere_along (x ∷ xs) none zero d at =
      subst (λ (y : D). IsNowhere (Is state y)) (same_Some x d at) (λ fault is. none fault (at_once is))
  nowhere_along (x ∷ xs) none (suc k) d at =
      nowhere_along xs (λ fault rest. none fault (further_on (λ other is. none other (at_once is)) rest)) k d at

  pub along_nowhere : (ds : List D) → ((k : ℕ) (d : D) → slice_get ds k ≡ Some d → IsNowhere (Is state d))
      → IsNowhere (FirstAlong Is stays state ds)
  along_nowhere ds none fault along = let first = at_along ds fault along in none first.i first.d first.there fault first.is

-- ---- Types by their names

name_decided : (types : List DeclaredType) (name : List ℕ) → Decides (is_type_name types name) (NamesType types name)
name_decided types name = (
  λ e. let found = list_any-at (is_type_named name) types e in
      (found.0, found.1, found.2, sym (same_bytes (folded name) (folded found.1.name) found.3)),
  λ is. any_passes_from_place (is_type_named name) types is.0 is.1 is.2 (bytes_same (folded name) (folded is.1.name) (sym is.3)),
)

pub not_named : (types : List DeclaredType) (name : List ℕ) → (is_type_name types name ≡ false) ↔ (¬ NamesType types name)
not_named types name = (
  λ e is. let never : true ≡ false = sym ((name_decided types name).1 is) ∙ e in absurd (cc never),
  λ none. by (is_type_name types name) (λ e. none ((name_decided types name).0 e)),
)
  where
    by : (test : Bool) → (test ≡ true → ⊥) → test ≡ false
    by true none = absurd (none refl)
    by false none = refl

-- ---- A name declared twice

pub second_from : (earlier ts : List DeclaredType) (t : DeclaredType) → second_declaration earlier ts ≡ Some t
    → FirstAlong IsDeclaredAgain and_also earlier ts (double_type t.place t.name)
second_from earlier [] t e = absurd (cc e)
second_from earlier (x ∷ xs) t e = by (is_type_name earlier x.name) refl e (λ h. second_from (earlier ++ x ∷ []) xs t h)
  where
    by : (named : Bool) → is_type_name earlier x.name ≡ named
        → (if named then Some x else second_declaration (earlier ++ x ∷ []) xs) ≡ Some t
        → (second_declaration (earlier ++ x ∷ []) xs ≡ Some t
        → FirstAlong IsDeclaredAgain and_also (earlier ++ x ∷ []) xs (double_type t.place t.name))
        → FirstAlong IsDeclaredAgain and_also earlier (x ∷ xs) (double_type t.place t.name)
    by true is found later =
        at_once (ap (λ (y : DeclaredType). double_type y.place y.name) (sym (same_Some x t found)), (name_decided earlier x.name).0 is)
    by false is found later = further_on (λ fault named. (not_named earlier x.name).0 is named.1) (later found)

pub second_to : (earlier ts : List DeclaredType) (fault : MentionFault) → FirstAlong IsDeclaredAgain and_also earlier ts fault
    → (t : DeclaredType) × (second_declaration earlier ts ≡ Some t) × (fault ≡ double_type t.place t.name)
second_to earlier _ fault (at_once {d = x} {ds = xs} is) =
    (x, (let named = (name_decided earlier x.name).1 is.1 in rw named refl), is.0)
second_to earlier _ fault (further_on {d = x} {ds = xs} none rest) =
    let found = second_to (earlier ++ x ∷ []) xs fault rest in
    let new : is_type_name earlier x.name ≡ false =
    (not_named earlier x.name).1 (λ named. none (double_type x.place x.name) (refl, named)) in
    (found.0, (rw new found.1), found.2)

abbrev pub Doubles : List DeclaredType → NameCause
Doubles types = FirstAlong IsDeclaredAgain and_also [] types

pub once_none : (types : List DeclaredType) → AreDeclaredOnce types → IsNowhere (Doubles types)
once_none types once fault along =
    let found = second_to [] types fault along in none_and_some (second_declaration [] types) found.0 once found.1

pub none_once : (types : List DeclaredType) → IsNowhere (Doubles types) → AreDeclaredOnce types
none_once types none =
    none_unless_some (second_declaration [] types) (λ t e. none (double_type t.place t.name) (second_from [] types t e))

-- ---- A mention of no type

among_from : (types : List DeclaredType) (ms : List PlacedName) (m : PlacedName) → unknown_among types ms ≡ Some m
    → FirstAlong IsMentionOfNone stays types ms (unknown_type m.place m.name)
among_from types [] m e = absurd (cc e)
among_from types (x ∷ xs) m e = by (is_type_name types x.name) refl e (λ h. among_from types xs m h)
  where
    by : (named : Bool) → is_type_name types x.name ≡ named → (if named then unknown_among types xs else Some x) ≡ Some m
        → (unknown_among types xs ≡ Some m → FirstAlong IsMentionOfNone stays types xs (unknown_type m.place m.name))
        → FirstAlong IsMentionOfNone stays types (x ∷ xs) (unknown_type m.place m.name)
    by true is found later = further_on (λ fault none. none.1 ((name_decided types x.name).0 is)) (later found)
    by false is found later =
        at_once (ap (λ (y : PlacedName). unknown_type y.place y.name) (sym (same_Some x m found)), (not_named types x.name).0 is)

among_to : (types : List DeclaredType) (ms : List PlacedName) (fault : MentionFault) → FirstAlong IsMentionOfNone stays types ms fault
    → (m : PlacedName) × (unknown_among types ms ≡ Some m) × (fault ≡ unknown_type m.place m.name)
among_to types _ fault (at_once {d = x} {ds = xs} is) =
    (x, (let none = (not_named types x.name).1 is.1 in rw none refl), is.0)
among_to types _ fault (further_on {d = x} {ds = xs} none rest) =
    let found = among_to types xs fault rest in
    (found.0, by (is_type_name types x.name) refl found.0 found.1, found.2)
  where
    by : (named : Bool) → is_type_name types x.name ≡ named → (m : PlacedName) → unknown_among types xs ≡ Some m
        → unknown_among types (x ∷ xs) ≡ Some m
    by true is m e = rw is e
    by false is m e = absurd (none (unknown_type x.place x.name) (refl, (not_named types x.name).0 is))

first_of_some : {A : Type 0} (o p : Option A) (x : A) → o ≡ Some x → earlier_of_two o p ≡ Some x
first_of_some {A = A} o p x e = ap (λ (q : Option A). earlier_of_two q p) e

pub mention_from : (types ts : List DeclaredType) (m : PlacedName) → unknown_mention types ts ≡ Some m
    → FirstAlong UnknownOf stays types ts (unknown_type m.place m.name)
mention_from types [] m e = absurd (cc e)
mention_from types (t ∷ ts) m e = by (unknown_among types (mentions_in t.body)) refl e (λ h. mention_from types ts m h)
  where
    by : (here : Option PlacedName) → unknown_among types (mentions_in t.body) ≡ here
        → earlier_of_two here (unknown_mention types ts) ≡ Some m
        → (unknown_mention types ts ≡ Some m → FirstAlong UnknownOf stays types ts (unknown_type m.place m.name))
        → FirstAlong UnknownOf stays types (t ∷ ts) (unknown_type m.place m.name)
    by None is found later =
        further_on
        (λ fault along. let some = among_to types (mentions_in t.body) fault along in
        none_and_some (unknown_among types (mentions_in t.body)) some.0 is some.1)
        (later found)
    by (Some x) is found later = at_once (among_from types (mentions_in t.body) m (is ∙ found))

pub mention_to : (types ts : List DeclaredType) (fault : MentionFault) → FirstAlong UnknownOf stays types ts fault
    → (m : PlacedName) × (unknown_mention types ts ≡ Some m) × (fault ≡ unknown_type m.place m.name)
mention_to types _ fault (at_once {d = t} {ds = ts} is) =
    let found = among_to types (mentions_in t.body) fault is in
    (found.0, first_of_some (unknown_among types (mentions_in t.body)) (unknown_mention types ts) found.0 found.1, found.2)
mention_to types _ fault (further_on {d = t} {ds = ts} none rest) =
    let found = mention_to types ts fault rest in
    (found.0, ap (λ (o : Option PlacedName). earlier_of_two o (unknown_mention types ts)) nothing ∙ found.1, found.2)
  where
    nothing : unknown_among types (mentions_in t.body) ≡ None
    nothing =
        none_unless_some (unknown_among types (mentions_in t.body))
        (λ m e. none (unknown_type m.place m.name) (among_from types (mentions_in t.body) m e))

abbrev pub Unknowns : List DeclaredType → NameCause
Unknowns types = FirstAlong UnknownOf stays types types

pub known_none : (types : List DeclaredType) → AreAllKnown types → IsNowhere (Unknowns types)
known_none types known fault along =
    let found = mention_to types types fault along in none_and_some (unknown_mention types types) found.0 known found.1

pub none_known : (types : List DeclaredType) → IsNowhere (Unknowns types) → AreAllKnown types
none_known types none =
    none_unless_some (unknown_mention types types) (λ m e. none (unknown_type m.place m.name) (mention_from types types m e))
