-- What was found over the tables is what the readings are.
use Rattle.std.proofs.Common.{◌≡◌, ℕ, Bool, true, false, inl, inr, List, [], refl, ap, sym, ◌∙◌, subst}
use Rattle.std.specs.Prelude.{Option, Some, None, nat_eq}
use Rattle.std.proofs.lemmas.Bool.{eqb-true, eq-eqb}
use Rattle.std.proofs.lemmas.Option.{same_Some}
use Rattle.lotos_base.specs.WrittenLaws.{head_of}
use Rattle.lotos_base.specs.WrittenTerm.{WrittenTerm, written_head}
use Rattle.lotos_base.specs.WrittenView.{written_term_of}
use Rattle.lotos_base.specs.declared.written_terms.Written.{Written}
use Rattle.lotos_base.specs.Signature.{Signature}
use Rattle.lotos_base.specs.Equation.{Variable, Place}
use Rattle.lotos_base.specs.Term.{Term}
use Rattle.sort_terms.specs.Counting.{HasNone, IsOnly, HasTwo}
use Rattle.sort_terms.specs.FoundAt.{IsFoundAt}
use Rattle.sort_terms.specs.ProfiledTerm.{ProfiledTerm, bare, head_sort, FitsProfiles, IsOf}
use Rattle.sort_terms.specs.Reading.{Reads, IsScopeOver}
use Rattle.sort_terms.specs.SortedView.{profiled_in, term_in}
use Rattle.sort_terms.specs.declared.sorted.Sorted.{Sorted}
use Rattle.sort_terms.proofs.BuildingLemmas.{built_one}
use Rattle.sort_terms.proofs.CountedLemmas.{written_opened}
use Rattle.sort_terms.specs.ReadingOutcome.{ReadingRefusal, no_reading, two_readings, unknown_in, ReadingIs, ReadingOutcome, answered, refused, ComesTo, SortedTerm, IsReading, IsExpected}
use Rattle.sort_terms.specs.Suiting.{Means, MeansSome, Suits}
use Rattle.sort_terms.specs.Tables.{Table, choice_at_sort, built_from}
use Rattle.sort_terms.specs.declared.choices.Choice.{Choice}
use Rattle.sort_terms.specs.declared.choices.Found.TheVariants.{Nothing, One, Several}
use Rattle.sort_terms.proofs.MeaningLemmas.{suits_means, answer_of}

-- what a choice says
pub choice_says : (signature : Signature) (scope : List Variable) (w : WrittenTerm) (t : Table) → Suits signature scope w t → (s : ℕ)
    (o : Option Choice)
    → choice_at_sort t s ≡ o → Means (λ u. Reads signature scope w u s) o
choice_says signature scope w t suits s o is =
    subst (λ (c : Option Choice). Means (λ u. Reads signature scope w u s) c) is (suits_means signature scope w t suits s)

pub nothing_found : (signature : Signature) (scope : List Variable) (w : WrittenTerm) (t : Table) → Suits signature scope w t
    → (expected : Option ℕ) → IsFoundAt (choice_at_sort t) expected Nothing → HasNone (IsReading signature scope w expected)
nothing_found signature scope w t suits None none = λ r h. choice_says signature scope w t suits r.sort None (none r.sort) r.term h.0
nothing_found signature scope w t suits (Some s) none = λ r h.
    choice_says signature scope w t suits r.sort None (ap (choice_at_sort t) h.1 ∙ none) r.term h.0

-- the term as a term of the sort
abbrev pub of_sort : Term → ℕ → SortedTerm
of_sort u s = record { term = u; sort = s }

two_of_sort : (signature : Signature) (scope : List Variable) (w : WrittenTerm) (expected : Option ℕ) (s : ℕ) → IsExpected expected s
    → HasTwo (λ u. Reads signature scope w u s) → HasTwo (IsReading signature scope w expected)
two_of_sort signature scope w expected s fits two = record {
  one = of_sort two.one s;
  other = of_sort two.other s;
  one_is = (two.one_is, fits);
  other_is = (two.other_is, fits);
  differ = λ same. two.differ (ap (λ (r : SortedTerm). r.term) same);
}

pub several_says : (signature : Signature) (scope : List Variable) (w : WrittenTerm) (t : Table) → Suits signature scope w t → (s : ℕ)
    (c : Choice)
    → choice_at_sort t s ≡ Some c → c.several ≡ true → HasTwo (λ u. Reads signature scope w u s)
several_says signature scope w t suits s c is several =
    subst (λ (b : Bool). MeansSome (λ u. Reads signature scope w u s) c.source b) several
    (choice_says signature scope w t suits s (Some c) is)

pub some_reading : (signature : Signature) (scope : List Variable) (w : WrittenTerm) (t : Table) → Suits signature scope w t → (s : ℕ)
    (c : Choice)
    → choice_at_sort t s ≡ Some c → (u : Term) × Reads signature scope w u s
some_reading signature scope w t suits s c is =
    answer_of (λ u. Reads signature scope w u s) c.source c.several (choice_says signature scope w t suits s (Some c) is)

pub several_found : (signature : Signature) (scope : List Variable) (w : WrittenTerm) (t : Table) → Suits signature scope w t
    → (expected : Option ℕ) → IsFoundAt (choice_at_sort t) expected Several → HasTwo (IsReading signature scope w expected)
several_found signature scope w t suits None (inl at) =
    two_of_sort signature scope w None at.0 tt (several_says signature scope w t suits at.0 at.1 at.2 at.3)
several_found signature scope w t suits None (inr at) =
    let one = some_reading signature scope w t suits at.0 at.2 at.4 in
    let other = some_reading signature scope w t suits at.1 at.3 at.5 in
    record {
      one = of_sort one.0 at.0;
      other = of_sort other.0 at.1;
      one_is = (one.1, tt);
      other_is = (other.1, tt);
      differ = λ same. at.6 (ap (λ (r : SortedTerm). r.sort) same);
    }
several_found signature scope w t suits (Some s) at =
    two_of_sort signature scope w (Some s) s refl (several_says signature scope w t suits s at.0 at.1 at.2)

-- the one reading
pub record IsOne (signature : Signature) (scope : List Variable) (w : WrittenTerm) (expected : Option ℕ) (s : ℕ) : Type 0 where
  pub term : Term
  pub only : IsOnly (IsReading signature scope w expected) (of_sort term s)
  pub only_there : IsOnly (λ u. Reads signature scope w u s) term

pub one_says : (signature : Signature) (scope : List Variable) (w : WrittenTerm) (t : Table) → Suits signature scope w t → (s : ℕ)
    (c : Choice)
    → choice_at_sort t s ≡ Some c → c.several ≡ false → (u : Term) × IsOnly (λ x. Reads signature scope w x s) u
one_says signature scope w t suits s c is single =
    let one = subst (λ (b : Bool). MeansSome (λ u. Reads signature scope w u s) c.source b) single
    (choice_says signature scope w t suits s (Some c) is) in
    (one.0, one.1)

of_one_sort : (signature : Signature) (scope : List Variable) (w : WrittenTerm) (expected : Option ℕ) (s : ℕ) (u : Term)
    → IsOnly (λ x. Reads signature scope w x s) u → IsExpected expected s
    → ((r : SortedTerm) → IsReading signature scope w expected r → r.sort ≡ s) → IsOne signature scope w expected s
of_one_sort signature scope w expected s u only fits sorts = record {
  term = u;
  only = record {
    is_answer = (only.is_answer, fits);
    only = λ r h.
        let sort = sorts r h in
        let term = only.only r.term (subst (λ (q : ℕ). Reads signature scope w r.term q) sort h.0) in
        ap (λ (q : ℕ). of_sort r.term q) sort ∙ ap (λ (x : Term). of_sort x s) term;
  };
  only_there = only;
}

sort_of_one : (signature : Signature) (scope : List Variable) (w : WrittenTerm) (t : Table) → Suits signature scope w t → (s : ℕ)
    → ((r : ℕ) → ¬ (r ≡ s) → choice_at_sort t r ≡ None) → (r : SortedTerm) → Reads signature scope w r.term r.sort → r.sort ≡ s
sort_of_one signature scope w t suits s others r h = go (nat_eq r.sort s) refl
  where
    differs : nat_eq r.sort s ≡ false → ¬ (r.sort ≡ s)
    differs no_test same = let both : true ≡ false = sym (eq-eqb r.sort s same) ∙ no_test in cc

    go : (b : Bool) → nat_eq r.sort s ≡ b → r.sort ≡ s
    go true same = eqb-true r.sort s same
    go false differ = absurd (choice_says signature scope w t suits r.sort None (others r.sort (differs differ)) r.term h)

pub one_found : (signature : Signature) (scope : List Variable) (w : WrittenTerm) (t : Table) → Suits signature scope w t
    → (expected : Option ℕ) (s : ℕ) → IsFoundAt (choice_at_sort t) expected (One s) → IsOne signature scope w expected s
one_found signature scope w t suits None s at =
    let one = one_says signature scope w t suits s at.0.0 at.0.1 at.0.2 in
    of_one_sort signature scope w None s one.0 one.1 tt (λ r h. sort_of_one signature scope w t suits s at.1 r h.0)
one_found signature scope w t suits (Some e) s at =
    let one = one_says signature scope w t suits s at.1 (ap (choice_at_sort t) at.0 ∙ at.2) at.3 in
    of_one_sort signature scope w (Some e) s one.0 one.1 at.0 (λ r h. h.1 ∙ sym at.0)

-- the outcome where no name is unknown
pub outcome_known : {A : Type 0} (unknown : List ReadingRefusal) (place : Place) (P : A → Type 0) (outcome : ReadingOutcome A)
    → unknown ≡ []
    → ComesTo [] place P outcome → ComesTo unknown place P outcome
outcome_known unknown place P outcome none comes =
    subst (λ (rs : List ReadingRefusal). ComesTo rs place P outcome) (sym none) comes

-- ---- Over the code's terms

pub place_seen : (w : Written) → (written_head (written_term_of w)).place ≡ (head_of w).place
place_seen w = ap (λ (x : WrittenTerm). (written_head x).place) (written_opened w)

pub none_read : (signature : Signature) (scope : List Variable) (w : Written) (t : Table) (expected : Option ℕ)
    → unknown_in signature scope (written_term_of w) ≡ [] → Suits signature scope (written_term_of w) t
    → IsFoundAt (choice_at_sort t) expected Nothing
    → ReadingIs signature scope (written_term_of w) expected (refused (no_reading (head_of w).place))
none_read signature scope w t expected known suits found =
    outcome_known _ _ _ _ known
    (inl (nothing_found signature scope (written_term_of w) t suits expected found, ap (λ (p : Place). no_reading p) (sym (place_seen w))))

pub two_read : (signature : Signature) (scope : List Variable) (w : Written) (t : Table) (expected : Option ℕ)
    → unknown_in signature scope (written_term_of w) ≡ [] → Suits signature scope (written_term_of w) t
    → IsFoundAt (choice_at_sort t) expected Several
    → ReadingIs signature scope (written_term_of w) expected (refused (two_readings (head_of w).place))
two_read signature scope w t expected known suits found =
    outcome_known _ _ _ _ known
    (inr (
      several_found signature scope (written_term_of w) t suits expected found,
      ap (λ (p : Place). two_readings p)
          (sym (place_seen w)),
    ))

-- what is built where one reading was found
pub one_built : (signature : Signature) (scope : List Variable) → IsScopeOver signature scope → (w : Written) (t : Table)
    (expected : Option ℕ) (s : ℕ)
    → Suits signature scope (written_term_of w) t → IsFoundAt (choice_at_sort t) expected (One s)
    → (p : ProfiledTerm) × (built_from signature t s ≡ Some p) × FitsProfiles p
one_built signature scope over w t expected s suits found =
    let one = one_found signature scope (written_term_of w) t suits expected s found in
    let built = built_one signature scope over (written_term_of w) t suits s one.term one.only_there in
    (built.0, built.1, built.2.fits)

pub one_read : (signature : Signature) (scope : List Variable) → IsScopeOver signature scope → (w : Written) (t : Table)
    (expected : Option ℕ) (s : ℕ)
    → unknown_in signature scope (written_term_of w) ≡ [] → Suits signature scope (written_term_of w) t
    → IsFoundAt (choice_at_sort t) expected (One s) → (term : Sorted) → built_from signature t s ≡ Some (profiled_in term)
    → IsOf signature (profiled_in term)
    × ReadingIs signature scope (written_term_of w) expected (answered (of_sort (term_in term) term.sort))
one_read signature scope over w t expected s known suits found term is =
    let one = one_found signature scope (written_term_of w) t suits expected s found in
    let built = built_one signature scope over (written_term_of w) t suits s one.term one.only_there in
    let same : built.0 ≡ profiled_in term = same_Some _ _ (sym built.1 ∙ is) in
    let bare_is : one.term ≡ term_in term = sym built.2.bare_is ∙ ap bare same in
    let sort_is : s ≡ term.sort = sym built.2.headed ∙ ap head_sort same ∙ term.headed in (
      subst (λ (p : ProfiledTerm). IsOf signature p) same built.2.is_of,
      outcome_known _ _ _ _ known
          (subst (λ (r : SortedTerm). IsOnly (IsReading signature scope (written_term_of w) expected) r)
          (ap (λ (u : Term). of_sort u s) bare_is ∙ ap (λ (q : ℕ). of_sort (term_in term) q) sort_is) one.only),
    )
