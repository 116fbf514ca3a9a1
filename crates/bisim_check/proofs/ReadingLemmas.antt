-- Lines of certificates, read one after another.
use Rattle.std.proofs.Common.{◌≡◌, ◌≤◌, ◌+◌, ℕ, zero, suc, List, [], ◌∷◌, ◌++◌, map, length, None, Some, slice_get, Result, Ok, Err, MatchResult, refl, ap, sym, ◌∙◌, subst, arith}
use Rattle.std.specs.Prelude.{OnOk, Vec}
use Rattle.std.proofs.lemmas.List.{map-append}
use Rattle.std.specs.declared.alloc.Global.{Global}
use Rattle.lotos_base.proofs.Members.{at_front, at_map, from_map}
use Rattle.lotos_base.specs.Equation.{Data}
use Rattle.lotos_base.specs.Term.{Term}
use Rattle.behaviour_semantics.specs.Behaviour.{Behaviour}
use Rattle.behaviour_semantics.specs.Menu.{IsEntry}
use Rattle.behaviour_semantics.specs.Solving as solving
use Rattle.behaviour_semantics.specs.WellFormed.{Every}
use Rattle.behaviour_semantics.proofs.InstanceLemmas.{every_at}
use Rattle.behaviour_semantics.proofs.OptionLemmas.{some_value}
use Rattle.behaviour_tree.specs.declared.definitions.Spec.{Spec}
use Rattle.certificate_theory.specs.Certificate.{CertificateLine, names_left, names_right, lists_pair, CertificateFault, no_state, Comparison, Reading as PlainReading, number_of_pairs}
use Rattle.certificate_theory.specs.NamedStates.{IsClosedEntry, HasClosedMenu, HasOpenMenu, NamesNoState, LineIsRead, LineFails, LinesAreRead, one_read, LinesFail, fails_here, fails_later, left_is_missing, right_is_missing, left_is_open, right_is_open}
use Rattle.certificate_theory.proofs.ReadStates.{lines_counted}
use Rattle.menu_builder.specs.HandedOn.{plain_entry, Entry, menu_entries}
use Rattle.menu_builder.specs.Menus.{entries_in}
use Rattle.bisim_check.specs.Faults.{TellsPairs}
use Rattle.bisim_check.specs.LineView.{line_of}
use Rattle.bisim_check.specs.NamedOnes.{HasNewState}
use Rattle.bisim_check.specs.Readings.{comparison_of, behaviour_at, pair_among, pairs_among, reading_of, IsClosedOne, HasClosedEntries, HasClosedState, IsListedPair, AreListedIn, IsKeptReading, IsOpenFault}
use Rattle.bisim_check.specs.Surveys.{IsSurveyed, AreSurveyed, behaviour_in, behaviours_in, side_over}
use Rattle.bisim_check.specs.declared.faults.PairsFault.{PairsFault}
use Rattle.bisim_check.specs.declared.lines.PairLine.{PairLine}
use Rattle.bisim_check.specs.declared.lines.PairLine.TheVariants.{Left, Right}
use Rattle.bisim_check.specs.declared.readings.Listed.{Listed}
use Rattle.bisim_check.specs.declared.readings.Reading.{Reading}
use Rattle.bisim_check.specs.declared.surveys.Surveyed.{Surveyed}
use Rattle.bisim_check.proofs.SurveyLemmas.{every_last}

-- ---- Menus without variables

pub closed_entries : (entries : List Entry) → Every IsClosedOne entries → (entry : solving.Entry)
    → IsEntry (map plain_entry entries) entry → IsClosedEntry entry
closed_entries entries closed entry there =
    let found : (own : Entry) × (slice_get entries there.0 ≡ Some own) × (plain_entry own ≡ entry) =
    from_map plain_entry entries there.0 entry there.1 in
    subst IsClosedEntry found.2 (every_at IsClosedOne entries there.0 found.0 closed found.1)

closed_menu : (data_ : Data) (canon : Term → Term) (spec : Spec) (surveyed : Surveyed) → IsSurveyed data_ canon spec surveyed
    → HasClosedEntries surveyed.menu → HasClosedMenu (side_over data_ canon spec) (behaviour_in surveyed)
closed_menu data_ canon spec surveyed h closed = record {
  menu = entries_in surveyed.menu;
  exact = h.exact;
  closed = closed_entries (menu_entries surveyed.menu) closed;
}

open_one : (data_ : Data) (canon : Term → Term) (spec : Spec) (surveyed : Surveyed) (line : ℕ) (f : CertificateFault)
    → IsSurveyed data_ canon spec surveyed → IsOpenFault surveyed.menu line f
    → HasOpenMenu (side_over data_ canon spec) (behaviour_in surveyed)
open_one data_ canon spec surveyed line f h it = record {
  menu = entries_in surveyed.menu;
  exact = h.exact;
  entry = plain_entry it.entry;
  there = (it.position, at_map plain_entry (menu_entries surveyed.menu) it.position it.entry it.there);
  open_entry = it.is_open;
}

-- ---- States by their numbers

pub at_state : (states : List Surveyed) (n : ℕ) (surveyed : Surveyed) → slice_get states n ≡ Some surveyed
    → behaviour_at states n ≡ behaviour_in surveyed
at_state [] n surveyed there = absurd (cc there)
at_state (s ∷ states) zero surveyed there = ap behaviour_in (some_value there)
at_state (s ∷ states) (suc n) surveyed there = at_state states n surveyed there

closed_more : (states more : List Surveyed) (n : ℕ) → HasClosedState states n → HasClosedState (states ++ more) n
closed_more states more n h =
    record { surveyed = h.surveyed; there = at_front states more n h.surveyed h.there; closed = h.closed }

at_more : (states more : List Surveyed) (n : ℕ) → HasClosedState states n → behaviour_at (states ++ more) n ≡ behaviour_at states n
at_more states more n h =
    at_state (states ++ more) n h.surveyed (at_front states more n h.surveyed h.there) ∙ sym (at_state states n h.surveyed h.there)

-- more states leave the pairs as they are
listed_left : (lefts rights more : List Surveyed) (pairs : List Listed) → AreListedIn lefts rights pairs
    → AreListedIn (lefts ++ more) rights pairs
listed_left lefts rights more [] h = tt
listed_left lefts rights more (p ∷ pairs) h =
    (record { left = closed_more lefts more p.left h.0.left; right = h.0.right }, listed_left lefts rights more pairs h.1)

listed_right : (lefts rights more : List Surveyed) (pairs : List Listed) → AreListedIn lefts rights pairs
    → AreListedIn lefts (rights ++ more) pairs
listed_right lefts rights more [] h = tt
listed_right lefts rights more (p ∷ pairs) h =
    (record { left = h.0.left; right = closed_more rights more p.right h.0.right }, listed_right lefts rights more pairs h.1)

pairs_left : (lefts rights more : List Surveyed) (pairs : List Listed) → AreListedIn lefts rights pairs
    → pairs_among (lefts ++ more) rights pairs ≡ pairs_among lefts rights pairs
pairs_left lefts rights more [] h = refl
pairs_left lefts rights more (p ∷ pairs) h =
    let left : behaviour_at (lefts ++ more) p.left ≡ behaviour_at lefts p.left = at_more lefts more p.left h.0.left in
    let rest : pairs_among (lefts ++ more) rights pairs ≡ pairs_among lefts rights pairs = pairs_left lefts rights more pairs h.1 in
    (λ i. record { line = p.line; left = left i; right = behaviour_at rights p.right } ∷ rest i)

pairs_right : (lefts rights more : List Surveyed) (pairs : List Listed) → AreListedIn lefts rights pairs
    → pairs_among lefts (rights ++ more) pairs ≡ pairs_among lefts rights pairs
pairs_right lefts rights more [] h = refl
pairs_right lefts rights more (p ∷ pairs) h =
    let right : behaviour_at (rights ++ more) p.right ≡ behaviour_at rights p.right = at_more rights more p.right h.0.right in
    let rest : pairs_among lefts (rights ++ more) pairs ≡ pairs_among lefts rights pairs = pairs_right lefts rights more pairs h.1 in
    (λ i. record { line = p.line; left = behaviour_at lefts p.left; right = right i } ∷ rest i)

-- one pair more
pair_more : (lefts rights : List Surveyed) (pairs : List Listed) (number i j : ℕ) (one other : Surveyed)
    → slice_get lefts i ≡ Some one → slice_get rights j ≡ Some other
    → pairs_among lefts rights (pairs ++ (record { line = number; left = i; right = j } ∷ []))
    ≡ pairs_among lefts rights pairs ++ (record { line = number; left = behaviour_in one; right = behaviour_in other } ∷ [])
pair_more lefts rights pairs number i j one other here there =
    let left : behaviour_at lefts i ≡ behaviour_in one = at_state lefts i one here in
    let right : behaviour_at rights j ≡ behaviour_in other = at_state rights j other there in
    map-append (pair_among lefts rights) pairs (record { line = number; left = i; right = j } ∷ [])
    ∙ (λ k. pairs_among lefts rights pairs ++ (record { line = number; left = left k; right = right k } ∷ []))

-- ---- One line

module _ (data_ : Data) (canon : Term → Term) (left right : Spec) (b c : Behaviour) (old : Reading)
    (kept : IsKeptReading data_ canon left right old) where
  left_read : (states : Vec Surveyed Global) (number from entry : ℕ)
      → HasNewState (side_over data_ canon left) from entry old.lefts.items states.items
      → LineIsRead (comparison_of data_ canon left right b c) (reading_of old) number (names_left from entry)
      (reading_of (record old { lefts = states }))
  left_read states number from entry h =
      let lefts : behaviours_in states.items ≡ behaviours_in old.lefts.items ++ (behaviour_in h.last ∷ []) =
      ap behaviours_in h.added ∙ map-append behaviour_in old.lefts.items (h.last ∷ []) in
      let pairs : pairs_among states.items old.rights.items old.pairs.items
      ≡ pairs_among old.lefts.items old.rights.items old.pairs.items =
      ap (λ (it : List Surveyed). pairs_among it old.rights.items old.pairs.items) h.added
      ∙ pairs_left old.lefts.items old.rights.items (h.last ∷ []) old.pairs.items kept.pairs in
      (behaviour_in h.last, h.named, (λ i. record { lefts = lefts i; rights = behaviours_in old.rights.items; pairs = pairs i }))

  right_read : (states : Vec Surveyed Global) (number from entry : ℕ)
      → HasNewState (side_over data_ canon right) from entry old.rights.items states.items
      → LineIsRead (comparison_of data_ canon left right b c) (reading_of old) number (names_right from entry)
      (reading_of (record old { rights = states }))
  right_read states number from entry h =
      let rights : behaviours_in states.items ≡ behaviours_in old.rights.items ++ (behaviour_in h.last ∷ []) =
      ap behaviours_in h.added ∙ map-append behaviour_in old.rights.items (h.last ∷ []) in
      let pairs : pairs_among old.lefts.items states.items old.pairs.items
      ≡ pairs_among old.lefts.items old.rights.items old.pairs.items =
      ap (λ (it : List Surveyed). pairs_among old.lefts.items it old.pairs.items) h.added
      ∙ pairs_right old.lefts.items old.rights.items (h.last ∷ []) old.pairs.items kept.pairs in
      (behaviour_in h.last, h.named, (λ i. record { lefts = behaviours_in old.lefts.items; rights = rights i; pairs = pairs i }))

  -- what a call that adds a state tells of its line
  pub left_told : {T : Type 0} (r : Result T PairsFault) (states : Vec Surveyed Global) (line : PairLine) (number from entry : ℕ)
      → line ≡ Left from entry
      → MatchResult r (λ _. HasNewState (side_over data_ canon left) from entry old.lefts.items states.items)
      (TellsPairs (NamesNoState (side_over data_ canon left) (behaviours_in old.lefts.items) from entry number))
      → MatchResult r (λ _. LineIsRead (comparison_of data_ canon left right b c) (reading_of old) number (line_of line)
      (reading_of (record old { lefts = states })))
      (TellsPairs (LineFails (comparison_of data_ canon left right b c) (reading_of old) number (line_of line)))
  left_told (Ok x) states line number from entry is h =
      subst (λ (it : PairLine). LineIsRead (comparison_of data_ canon left right b c) (reading_of old) number (line_of it)
      (reading_of (record old { lefts = states }))) (sym is) (left_read states number from entry h)
  left_told (Err e) states line number from entry is h =
      subst (λ (it : PairLine). TellsPairs (LineFails (comparison_of data_ canon left right b c) (reading_of old) number
      (line_of it)) e)
      (sym is) h

  pub right_told : {T : Type 0} (r : Result T PairsFault) (states : Vec Surveyed Global) (line : PairLine) (number from entry : ℕ)
      → line ≡ Right from entry
      → MatchResult r (λ _. HasNewState (side_over data_ canon right) from entry old.rights.items states.items)
      (TellsPairs (NamesNoState (side_over data_ canon right) (behaviours_in old.rights.items) from entry number))
      → MatchResult r (λ _. LineIsRead (comparison_of data_ canon left right b c) (reading_of old) number (line_of line)
      (reading_of (record old { rights = states })))
      (TellsPairs (LineFails (comparison_of data_ canon left right b c) (reading_of old) number (line_of line)))
  right_told (Ok x) states line number from entry is h =
      subst (λ (it : PairLine). LineIsRead (comparison_of data_ canon left right b c) (reading_of old) number (line_of it)
      (reading_of (record old { rights = states }))) (sym is) (right_read states number from entry h)
  right_told (Err e) states line number from entry is h =
      subst (λ (it : PairLine). TellsPairs (LineFails (comparison_of data_ canon left right b c) (reading_of old) number
      (line_of it)) e)
      (sym is) h

  -- a pair whose states are there, with menus without variables
  pub pair_read : (pairs : Vec Listed Global) (number i j : ℕ) (one other : Surveyed) → slice_get old.lefts.items i ≡ Some one
      → slice_get old.rights.items j ≡ Some other → HasClosedEntries one.menu → HasClosedEntries other.menu
      → pairs.items ≡ old.pairs.items ++ (record { line = number; left = i; right = j } ∷ [])
      → LineIsRead (comparison_of data_ canon left right b c) (reading_of old) number (lists_pair i j)
      (reading_of (record old { pairs = pairs })) × IsKeptReading data_ canon left right (record old { pairs = pairs })
  pair_read pairs number i j one other here there one_closed other_closed added =
      let one_surveyed : IsSurveyed data_ canon left one = every_at (IsSurveyed data_ canon left) old.lefts.items i one kept.lefts here in
      let other_surveyed : IsSurveyed data_ canon right other =
      every_at (IsSurveyed data_ canon right) old.rights.items j other kept.rights there in
      let more : pairs_among old.lefts.items old.rights.items pairs.items
      ≡ pairs_among old.lefts.items old.rights.items old.pairs.items
      ++ (record { line = number; left = behaviour_in one; right = behaviour_in other } ∷ []) =
      ap (pairs_among old.lefts.items old.rights.items) added
      ∙ pair_more old.lefts.items old.rights.items old.pairs.items number i j one other here there in (
        (
          behaviour_in one,
          behaviour_in other,
          record {
            left_named = at_map behaviour_in old.lefts.items i one here;
            right_named = at_map behaviour_in old.rights.items j other there;
            left_closed = closed_menu data_ canon left one one_surveyed one_closed;
            right_closed = closed_menu data_ canon right other other_surveyed other_closed;
          },
          (λ k. record { lefts = behaviours_in old.lefts.items; rights = behaviours_in old.rights.items; pairs = more k }),
        ),
        record {
          lefts = kept.lefts;
          rights = kept.rights;
          pairs = subst (AreListedIn old.lefts.items old.rights.items) (sym added)
              (every_last (IsListedPair old.lefts.items old.rights.items) old.pairs.items (record { line = number; left = i; right = j })
              kept.pairs (record {
                left = record { surveyed = one; there = here; closed = one_closed };
                right = record { surveyed = other; there = there; closed = other_closed };
              }));
        },
      )

  -- a pair that is not listed
  pub lacks_left : (i j line : ℕ) (f : CertificateFault) → (f ≡ no_state line) × (slice_get (behaviours_in old.lefts.items) i ≡ None)
      → LineFails (comparison_of data_ canon left right b c) (reading_of old) line (lists_pair i j) f
  lacks_left i j line f h =
      subst (LineFails (comparison_of data_ canon left right b c) (reading_of old) line (lists_pair i j)) (sym h.0)
      (left_is_missing h.1)

  pub lacks_right : (i j line : ℕ) (f : CertificateFault) → (f ≡ no_state line) × (slice_get (behaviours_in old.rights.items) j ≡ None)
      → LineFails (comparison_of data_ canon left right b c) (reading_of old) line (lists_pair i j) f
  lacks_right i j line f h =
      subst (LineFails (comparison_of data_ canon left right b c) (reading_of old) line (lists_pair i j)) (sym h.0)
      (right_is_missing h.1)

  pub opens_left : (i j line : ℕ) (one other : Surveyed) → slice_get old.lefts.items i ≡ Some one
      → slice_get old.rights.items j ≡ Some other → (f : CertificateFault) → IsOpenFault one.menu line f
      → LineFails (comparison_of data_ canon left right b c) (reading_of old) line (lists_pair i j) f
  opens_left i j line one other here there f h =
      subst (LineFails (comparison_of data_ canon left right b c) (reading_of old) line (lists_pair i j)) (sym h.is)
      (left_is_open (behaviour_in one) (behaviour_in other) (at_map behaviour_in old.lefts.items i one here)
      (at_map behaviour_in old.rights.items j other there)
      (open_one data_ canon left one line f (every_at (IsSurveyed data_ canon left) old.lefts.items i one kept.lefts here) h))

  pub opens_right : (i j line : ℕ) (one other : Surveyed) → slice_get old.lefts.items i ≡ Some one
      → slice_get old.rights.items j ≡ Some other → (f : CertificateFault) → IsOpenFault other.menu line f
      → LineFails (comparison_of data_ canon left right b c) (reading_of old) line (lists_pair i j) f
  opens_right i j line one other here there f h =
      subst (LineFails (comparison_of data_ canon left right b c) (reading_of old) line (lists_pair i j)) (sym h.is)
      (right_is_open (behaviour_in one) (behaviour_in other) (at_map behaviour_in old.lefts.items i one here)
      (at_map behaviour_in old.rights.items j other there)
      (open_one data_ canon right other line f (every_at (IsSurveyed data_ canon right) old.rights.items j other kept.rights there) h))

-- what is kept after a state was added
pub left_kept : (data_ : Data) (canon : Term → Term) (left right : Spec) (old : Reading) → IsKeptReading data_ canon left right old
    → {T : Type 0} (r : Result T PairsFault) (states : Vec Surveyed Global) (from entry : ℕ) (Q : PairsFault → Type 0)
    → MatchResult r (λ _. HasNewState (side_over data_ canon left) from entry old.lefts.items states.items) Q
    → OnOk r (AreSurveyed data_ canon left states.items) → OnOk r (IsKeptReading data_ canon left right (record old { lefts = states }))
left_kept data_ canon left right old kept (Ok x) states from entry Q h surveyed = record {
  lefts = surveyed;
  rights = kept.rights;
  pairs = subst (λ (it : List Surveyed). AreListedIn it old.rights.items old.pairs.items) (sym h.added)
      (listed_left old.lefts.items old.rights.items (h.last ∷ []) old.pairs.items kept.pairs);
}
left_kept data_ canon left right old kept (Err e) states from entry Q h surveyed = tt

pub right_kept : (data_ : Data) (canon : Term → Term) (left right : Spec) (old : Reading) → IsKeptReading data_ canon left right old
    → {T : Type 0} (r : Result T PairsFault) (states : Vec Surveyed Global) (from entry : ℕ) (Q : PairsFault → Type 0)
    → MatchResult r (λ _. HasNewState (side_over data_ canon right) from entry old.rights.items states.items) Q
    → OnOk r (AreSurveyed data_ canon right states.items) → OnOk r (IsKeptReading data_ canon left right (record old { rights = states }))
right_kept data_ canon left right old kept (Ok x) states from entry Q h surveyed = record {
  lefts = kept.lefts;
  rights = surveyed;
  pairs = subst (λ (it : List Surveyed). AreListedIn old.lefts.items it old.pairs.items) (sym h.added)
      (listed_right old.lefts.items old.rights.items (h.last ∷ []) old.pairs.items kept.pairs);
}
right_kept data_ canon left right old kept (Err e) states from entry Q h surveyed = tt

-- of a result that tells two things, the second
pub second_told : {T E : Type 0} (A B : Type 0) (r : Result T E) (Q : E → Type 0) → MatchResult r (λ _. A × B) Q → OnOk r B
second_told A B (Ok x) Q h = h.1
second_told A B (Err e) Q h = tt

-- ---- Line by line

-- the first of the lines from a place on is read, and what the others come to is what all of them come to
pub read_on : (c : Comparison) (lines : List CertificateLine) (line : CertificateLine) (rest : List CertificateLine) (number : ℕ)
    (r next last : PlainReading) → lines ≡ line ∷ rest → LineIsRead c r number line next
    → LinesAreRead c next (suc number) rest last → LinesAreRead c r number lines last
read_on c lines line rest number r next last cut read more =
    subst (λ (it : List CertificateLine). LinesAreRead c r number it last) (sym cut) (one_read read more)

pub fail_on : (c : Comparison) (lines : List CertificateLine) (line : CertificateLine) (rest : List CertificateLine) (number : ℕ)
    (r next : PlainReading) (f : CertificateFault) → lines ≡ line ∷ rest → LineIsRead c r number line next
    → LinesFail c next (suc number) rest f → LinesFail c r number lines f
fail_on c lines line rest number r next f cut read more =
    subst (λ (it : List CertificateLine). LinesFail c r number it f) (sym cut) (fails_later read more)

pub fail_now : (c : Comparison) (lines : List CertificateLine) (line : CertificateLine) (rest : List CertificateLine) (number : ℕ)
    (r : PlainReading) (f : CertificateFault) → lines ≡ line ∷ rest → LineFails c r number line f → LinesFail c r number lines f
fail_now c lines line rest number r f cut fails =
    subst (λ (it : List CertificateLine). LinesFail c r number it f) (sym cut) (fails_here fails)

-- no more pairs are listed than there are lines
pairs_within : (lines : List CertificateLine) → number_of_pairs lines ≤ length lines
pairs_within [] = omega arith
pairs_within (names_left from n ∷ lines) = omega (arith, pairs_within lines)
pairs_within (names_right from n ∷ lines) = omega (arith, pairs_within lines)
pairs_within (lists_pair i j ∷ lines) = omega (arith, pairs_within lines)

pub few_pairs : (c : Comparison) (lines : List CertificateLine) (r last : PlainReading) (number : ℕ) → LinesAreRead c r number lines last
    → length last.pairs ≤ length r.pairs + length lines
few_pairs c lines r last number read = omega (arith, lines_counted c lines read, pairs_within lines)
