-- What was found over the sorts that two terms share is what the readings of pairs are.
use Rattle.std.proofs.Common.{◌≡◌, ◌⊎◌, ℕ, Bool, true, false, ◌||◌, List, [], ◌++◌, inl, inr, refl, ap, sym, ◌∙◌, subst}
use Rattle.std.specs.Prelude.{Option, Some, None, nat_eq}
use Rattle.std.proofs.lemmas.Bool.{eqb-true, eq-eqb, or_cases, or_parts}
use Rattle.std.proofs.lemmas.Option.{same_Some, none-some}
use Rattle.lotos_base.specs.WrittenLaws.{head_of}
use Rattle.lotos_base.specs.WrittenTerm.{WrittenTerm}
use Rattle.lotos_base.specs.WrittenView.{written_term_of}
use Rattle.lotos_base.specs.declared.written_terms.Written.{Written}
use Rattle.lotos_base.specs.Signature.{Signature}
use Rattle.lotos_base.specs.Equation.{Variable, Place}
use Rattle.lotos_base.specs.Term.{Term}
use Rattle.sort_terms.specs.Choices.{both}
use Rattle.sort_terms.specs.ChoicesView.{IsFound, choice_at}
use Rattle.sort_terms.specs.TableView.{table_of}
use Rattle.sort_terms.specs.declared.counted.Counted.{Counted, out-Counted}
use Rattle.sort_terms.proofs.CombinedLemmas.{table_choices}
use Rattle.sort_terms.specs.Counting.{HasNone, IsOnly, HasTwo}
use Rattle.sort_terms.specs.ProfiledTerm.{ProfiledTerm, bare, head_sort, FitsProfiles, IsOf}
use Rattle.sort_terms.specs.Reading.{Reads, IsScopeOver}
use Rattle.sort_terms.specs.ReadingOutcome.{ReadingRefusal, no_reading, two_readings, unknown_in, PairReadingIs, answered, refused, SortedPair, IsPairReading}
use Rattle.sort_terms.specs.SortedView.{profiled_in, term_in}
use Rattle.sort_terms.specs.Suiting.{Suits}
use Rattle.sort_terms.specs.Tables.{Table, choice_at_sort, built_from}
use Rattle.sort_terms.specs.declared.choices.Choice.{Choice}
use Rattle.sort_terms.specs.declared.choices.Found.TheVariants.{Nothing, One, Several}
use Rattle.sort_terms.specs.declared.sorted.Sorted.{Sorted}
use Rattle.sort_terms.proofs.BuildingLemmas.{built_one}
use Rattle.sort_terms.proofs.ReadingLemmas.{choice_says, several_says, some_reading, one_says, outcome_known, place_seen}

-- ---- What both have

both_missing : (a b : Option Choice) → both a b ≡ None → (a ≡ None) ⊎ (b ≡ None)
both_missing None b none = inl refl
both_missing (Some x) None none = inr refl
both_missing (Some x) (Some y) none = absurd (none-some _ (sym none))

pub record AreBoth (a b : Option Choice) (c : Choice) : Type 0 where
  pub left : Choice
  pub right : Choice
  pub left_is : a ≡ Some left
  pub right_is : b ≡ Some right
  pub several : c.several ≡ (left.several || right.several)

are_both : (a b : Option Choice) (c : Choice) → both a b ≡ Some c → AreBoth a b c
are_both None b c is = absurd (none-some c is)
are_both (Some x) None c is = absurd (none-some c is)
are_both (Some x) (Some y) c is = record {
  left = x;
  right = y;
  left_is = refl;
  right_is = refl;
  several = ap (λ (d : Choice). d.several) (sym (same_Some _ _ is));
}

-- ---- Pairs

abbrev pub pair_of : Term → Term → ℕ → SortedPair
pair_of u v s = record { left = u; right = v; sort = s }

-- what the two tables say, and what both have
pub record ArePairs (signature : Signature) (scope : List Variable) (l r : WrittenTerm) (t u : Table)
    (common : ℕ → Option Choice) : Type 0 where
  pub left : Suits signature scope l t
  pub right : Suits signature scope r u
  pub common_is : (s : ℕ) → common s ≡ both (choice_at_sort t s) (choice_at_sort u s)

pub pairs_of : (signature : Signature) (scope : List Variable) (l r : WrittenTerm) (a b : Counted) (common : ℕ → Option Choice)
    → Suits signature scope l (table_of a) → Suits signature scope r (table_of b)
    → ((s : ℕ) → common s ≡ both (choice_at (out-Counted a).choices s) (choice_at (out-Counted b).choices s))
    → ArePairs signature scope l r (table_of a) (table_of b) common
pairs_of signature scope l r a b common left right are = record {
  left = left;
  right = right;
  common_is = λ s.
      are s ∙ ap (λ (c : Option Choice). both c (choice_at (out-Counted b).choices s)) (sym (table_choices a s))
      ∙ ap (λ (c : Option Choice). both (choice_at_sort (table_of a) s) c) (sym (table_choices b s));
}

pub nothing_common : (signature : Signature) (scope : List Variable) (l r : WrittenTerm) (t u : Table) (common : ℕ → Option Choice)
    → ArePairs signature scope l r t u common → IsFound common Nothing → HasNone (IsPairReading signature scope l r)
nothing_common signature scope l r t u common pairs none = λ pair h.
    elim (both_missing (choice_at_sort t pair.sort) (choice_at_sort u pair.sort) (sym (pairs.common_is pair.sort) ∙ none pair.sort)) [
      | inl missing ↦ choice_says signature scope l t pairs.left pair.sort None missing pair.left h.0
      | inr missing ↦ choice_says signature scope r u pairs.right pair.sort None missing pair.right h.1
    ]

two_lefts : (signature : Signature) (scope : List Variable) (l r : WrittenTerm) (s : ℕ) → HasTwo (λ x. Reads signature scope l x s)
    → (v : Term) → Reads signature scope r v s → HasTwo (IsPairReading signature scope l r)
two_lefts signature scope l r s two v read = record {
  one = pair_of two.one v s;
  other = pair_of two.other v s;
  one_is = (two.one_is, read);
  other_is = (two.other_is, read);
  differ = λ same. two.differ (ap (λ (p : SortedPair). p.left) same);
}

two_rights : (signature : Signature) (scope : List Variable) (l r : WrittenTerm) (s : ℕ) → HasTwo (λ x. Reads signature scope r x s)
    → (v : Term) → Reads signature scope l v s → HasTwo (IsPairReading signature scope l r)
two_rights signature scope l r s two v read = record {
  one = pair_of v two.one s;
  other = pair_of v two.other s;
  one_is = (read, two.one_is);
  other_is = (read, two.other_is);
  differ = λ same. two.differ (ap (λ (p : SortedPair). p.right) same);
}

pub several_common : (signature : Signature) (scope : List Variable) (l r : WrittenTerm) (t u : Table) (common : ℕ → Option Choice)
    → ArePairs signature scope l r t u common → IsFound common Several → HasTwo (IsPairReading signature scope l r)
several_common signature scope l r t u common pairs (inl at) =
    let parts = are_both (choice_at_sort t at.0) (choice_at_sort u at.0) at.1 (sym (pairs.common_is at.0) ∙ at.2) in
    let left = some_reading signature scope l t pairs.left at.0 parts.left parts.left_is in
    let right = some_reading signature scope r u pairs.right at.0 parts.right parts.right_is in
    elim (or_cases parts.left.several parts.right.several (sym parts.several ∙ at.3)) [
      | inl several ↦
          two_lefts signature scope l r at.0
          (several_says signature scope l t pairs.left at.0 parts.left parts.left_is several) right.0 right.1
      | inr several ↦
          two_rights signature scope l r at.0
          (several_says signature scope r u pairs.right at.0 parts.right parts.right_is several) left.0 left.1
    ]
several_common signature scope l r t u common pairs (inr at) =
    let first = are_both (choice_at_sort t at.0) (choice_at_sort u at.0) at.2 (sym (pairs.common_is at.0) ∙ at.4) in
    let second = are_both (choice_at_sort t at.1) (choice_at_sort u at.1) at.3 (sym (pairs.common_is at.1) ∙ at.5) in
    let one_left = some_reading signature scope l t pairs.left at.0 first.left first.left_is in
    let one_right = some_reading signature scope r u pairs.right at.0 first.right first.right_is in
    let other_left = some_reading signature scope l t pairs.left at.1 second.left second.left_is in
    let other_right = some_reading signature scope r u pairs.right at.1 second.right second.right_is in
    record {
      one = pair_of one_left.0 one_right.0 at.0;
      other = pair_of other_left.0 other_right.0 at.1;
      one_is = (one_left.1, one_right.1);
      other_is = (other_left.1, other_right.1);
      differ = λ same. at.6 (ap (λ (p : SortedPair). p.sort) same);
    }

-- the one pair
pub record IsOnePair (signature : Signature) (scope : List Variable) (l r : WrittenTerm) (s : ℕ) : Type 0 where
  pub left : Term
  pub right : Term
  pub only : IsOnly (IsPairReading signature scope l r) (pair_of left right s)
  pub only_left : IsOnly (λ x. Reads signature scope l x s) left
  pub only_right : IsOnly (λ x. Reads signature scope r x s) right

pub one_common : (signature : Signature) (scope : List Variable) (l r : WrittenTerm) (t u : Table) (common : ℕ → Option Choice) (s : ℕ)
    → ArePairs signature scope l r t u common → IsFound common (One s) → IsOnePair signature scope l r s
one_common signature scope l r t u common s pairs at =
    let parts = are_both (choice_at_sort t s) (choice_at_sort u s) at.0.0 (sym (pairs.common_is s) ∙ at.0.1) in
    let single = or_parts parts.left.several parts.right.several (sym parts.several ∙ at.0.2) in
    let left = one_says signature scope l t pairs.left s parts.left parts.left_is single.0 in
    let right = one_says signature scope r u pairs.right s parts.right parts.right_is single.1 in
    record {
      left = left.0;
      right = right.0;
      only = record { is_answer = (left.1.is_answer, right.1.is_answer); only = λ p h. only_pair left.0 right.0 left.1 right.1 p h };
      only_left = left.1;
      only_right = right.1;
    }
  where
    same_sort : (p : SortedPair) → IsPairReading signature scope l r p → (b : Bool) → nat_eq p.sort s ≡ b → p.sort ≡ s
    same_sort p h true same = eqb-true p.sort s same
    same_sort p h false differ =
        absurd (elim (both_missing (choice_at_sort t p.sort) (choice_at_sort u p.sort)
        (sym (pairs.common_is p.sort) ∙ at.1 p.sort (λ same. let both : true ≡ false = sym (eq-eqb p.sort s same) ∙ differ in cc))) [
          | inl missing ↦ choice_says signature scope l t pairs.left p.sort None missing p.left h.0
          | inr missing ↦ choice_says signature scope r u pairs.right p.sort None missing p.right h.1
        ])

    only_pair : (x y : Term) → IsOnly (λ z. Reads signature scope l z s) x → IsOnly (λ z. Reads signature scope r z s) y
        → (p : SortedPair) → IsPairReading signature scope l r p → p ≡ pair_of x y s
    only_pair x y only_x only_y p h =
        let sort = same_sort p h (nat_eq p.sort s) refl in
        let first = only_x.only p.left (subst (λ (q : ℕ). Reads signature scope l p.left q) sort h.0) in
        let second = only_y.only p.right (subst (λ (q : ℕ). Reads signature scope r p.right q) sort h.1) in
        ap (λ (q : ℕ). pair_of p.left p.right q) sort ∙ ap (λ (z : Term). pair_of z p.right s) first ∙ ap
        (λ (z : Term). pair_of x z s) second

-- ---- Over the code's terms

none_unknown : (signature : Signature) (scope : List Variable) (l r : Written) → unknown_in signature scope (written_term_of l) ≡ []
    → unknown_in signature scope (written_term_of r) ≡ []
    → unknown_in signature scope (written_term_of l) ++ unknown_in signature scope (written_term_of r) ≡ []
none_unknown signature scope l r left right =
    ap (λ (rs : List ReadingRefusal). rs ++ unknown_in signature scope (written_term_of r)) left ∙ right

pub no_pair : (signature : Signature) (scope : List Variable) (l r : Written) (t u : Table) (common : ℕ → Option Choice)
    → unknown_in signature scope (written_term_of l) ≡ [] → unknown_in signature scope (written_term_of r) ≡ []
    → ArePairs signature scope (written_term_of l) (written_term_of r) t u common → IsFound common Nothing
    → PairReadingIs signature scope (written_term_of l) (written_term_of r) (refused (no_reading (head_of l).place))
no_pair signature scope l r t u common left right pairs found =
    outcome_known _ _ _ _ (none_unknown signature scope l r left right)
    (inl (
      nothing_common signature scope (written_term_of l) (written_term_of r) t u common pairs found,
      ap (λ (p : Place). no_reading p)
          (sym (place_seen l)),
    ))

pub two_pairs : (signature : Signature) (scope : List Variable) (l r : Written) (t u : Table) (common : ℕ → Option Choice)
    → unknown_in signature scope (written_term_of l) ≡ [] → unknown_in signature scope (written_term_of r) ≡ []
    → ArePairs signature scope (written_term_of l) (written_term_of r) t u common → IsFound common Several
    → PairReadingIs signature scope (written_term_of l) (written_term_of r) (refused (two_readings (head_of l).place))
two_pairs signature scope l r t u common left right pairs found =
    outcome_known _ _ _ _ (none_unknown signature scope l r left right)
    (inr (
      several_common signature scope (written_term_of l) (written_term_of r) t u common pairs found,
      ap (λ (p : Place). two_readings p)
          (sym (place_seen l)),
    ))

-- what is built of one side
pub side_built : (signature : Signature) (scope : List Variable) → IsScopeOver signature scope → (w : WrittenTerm) (t : Table) (s : ℕ)
    (x : Term)
    → Suits signature scope w t → IsOnly (λ y. Reads signature scope w y s) x
    → (p : ProfiledTerm) × (built_from signature t s ≡ Some p) × FitsProfiles p
side_built signature scope over w t s x suits only =
    let built = built_one signature scope over w t suits s x only in
    (built.0, built.1, built.2.fits)

-- one side as it was built
pub record IsSide (signature : Signature) (x : Term) (s : ℕ) (term : Sorted) : Type 0 where
  pub is_of : IsOf signature (profiled_in term)
  pub term_is : x ≡ term_in term
  pub sort_is : s ≡ term.sort

side_is : (signature : Signature) (scope : List Variable) → IsScopeOver signature scope → (w : WrittenTerm) (t : Table) (s : ℕ) (x : Term)
    → Suits signature scope w t → IsOnly (λ y. Reads signature scope w y s) x → (term : Sorted) → built_from signature t s ≡ Some
    (profiled_in term)
    → IsSide signature x s term
side_is signature scope over w t s x suits only term is =
    let built = built_one signature scope over w t suits s x only in
    let same : built.0 ≡ profiled_in term = same_Some _ _ (sym built.1 ∙ is) in
    record {
      is_of = subst (λ (p : ProfiledTerm). IsOf signature p) same built.2.is_of;
      term_is = sym built.2.bare_is ∙ ap bare same;
      sort_is = sym built.2.headed ∙ ap head_sort same ∙ term.headed;
    }

pub one_pair : (signature : Signature) (scope : List Variable) → IsScopeOver signature scope → (l r : Written) (t u : Table)
    (common : ℕ → Option Choice)
    (s : ℕ) → unknown_in signature scope (written_term_of l) ≡ [] → unknown_in signature scope (written_term_of r) ≡ []
    → ArePairs signature scope (written_term_of l) (written_term_of r) t u common → IsFound common (One s)
    → (left right : Sorted) → built_from signature t s ≡ Some (profiled_in left) → built_from signature u s ≡ Some (profiled_in right)
    → IsOf signature (profiled_in left) × IsOf signature (profiled_in right) × (right.sort ≡ left.sort)
    × PairReadingIs signature scope (written_term_of l) (written_term_of r) (answered (pair_of (term_in left) (term_in right) left.sort))
one_pair signature scope over l r t u common s left_known right_known pairs found left right left_is right_is =
    let one = one_common signature scope (written_term_of l) (written_term_of r) t u common s pairs found in
    let first = side_is signature scope over (written_term_of l) t s one.left pairs.left one.only_left left left_is in
    let second = side_is signature scope over (written_term_of r) u s one.right pairs.right one.only_right right right_is in (
      first.is_of,
      second.is_of,
      sym second.sort_is ∙ first.sort_is,
      outcome_known _ _ _ _ (none_unknown signature scope l r left_known right_known)
          (subst (λ (p : SortedPair). IsOnly (IsPairReading signature scope (written_term_of l) (written_term_of r)) p)
          (ap (λ (x : Term). pair_of x one.right s) first.term_is ∙ ap (λ (x : Term). pair_of (term_in left) x s) second.term_is
          ∙ ap (λ (q : ℕ). pair_of (term_in left) (term_in right) q) first.sort_is) one.only),
    )
