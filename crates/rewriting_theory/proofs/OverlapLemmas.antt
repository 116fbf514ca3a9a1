-- Each overlap of two left sides is an instance of any critical pair at its place, and there is one.
use Rattle.std.proofs.Common.{◌≡◌, ℕ, zero, suc, List, [], ◌∷◌, Bool, true, false, nat_eq, refl, ap, sym, ◌∙◌, subst, inl, inr}
use Rattle.std.specs.Prelude.{Option, Some, None, ◌&&◌, if◌then◌else◌}
use Rattle.std.proofs.lemmas.Option.{same_Some}
use Rattle.std.proofs.lemmas.Bool.Decides.{Decides-eqb, Decides-and}
use Rattle.lotos_base.specs.Term.{Term, variable, node, Terms, no_terms, term_then}
use Rattle.lotos_base.specs.Sorting.{Occurs, OccursAmong}
use Rattle.lotos_base.specs.Path.{argument_at, subterm, put_at}
use Rattle.lotos_base.specs.Substitution.{Substitution, substituted, followed_by, renaming}
use Rattle.lotos_base.specs.Canon.{KeepsApart}
use Rattle.lotos_base.proofs.PathLemmas.{subterm_below}
use Rattle.lotos_base.proofs.SubstitutionLemmas.{substituted_twice, substituted_agree, substituted_occurs, occurs_substituted, put_at-substituted}
use Rattle.rewriting_theory.specs.Rule.{Rule, AreWellFormedRules}
use Rattle.rewriting_theory.specs.Reduction.{Join}
use Rattle.rewriting_theory.specs.Step.{Step}
use Rattle.rewriting_theory.specs.Unification.{IsUnifier, OccursInEither, AreApart}
use Rattle.rewriting_theory.specs.CriticalPair.{CriticalPair, IsCriticalPair, Overlaps}
use Rattle.rewriting_theory.proofs.NewmanLemmas.{join_map}
use Rattle.rewriting_theory.proofs.StepLemmas.{step_substituted}

-- ---- Undoing a renaming

abbrev or_else : Option ℕ → Option ℕ → Option ℕ
or_else (Some n) other = Some n
or_else None other = other

abbrev mutual
  -- The number of the first variable of the term that the renaming gives this number, in this sort.
  pub unnumbered : (ℕ → ℕ → ℕ) → Term → ℕ → ℕ → Option ℕ
  unnumbered number (variable n r) m s = if nat_eq (number n r) m && nat_eq r s then Some n else None
  unnumbered number (node f ts) m s = unnumbered_among number ts m s

  unnumbered_among : (ℕ → ℕ → ℕ) → Terms → ℕ → ℕ → Option ℕ
  unnumbered_among number no_terms m s = None
  unnumbered_among number (term_then t ts) m s = or_else (unnumbered number t m s) (unnumbered_among number ts m s)

-- What such a number is: that of a variable that occurs.
pub record Unnumbered (number : ℕ → ℕ → ℕ) (m s n : ℕ) (Among : ℕ → ℕ → Type 0) : Type 0 where
  pub occurs : Among n s
  pub is_number : number n s ≡ m

mutual
  pub unnumbered_sound : (number : ℕ → ℕ → ℕ) (t : Term) (m s n : ℕ) → unnumbered number t m s ≡ Some n
      → Unnumbered number m s n (λ k q. Occurs k q t)
  unnumbered_sound number (variable k r) m s n e = go (nat_eq (number k r) m && nat_eq r s) refl e
    where
      go : (b : Bool) → (nat_eq (number k r) m && nat_eq r s) ≡ b → (if b then Some k else None) ≡ Some n
          → Unnumbered number m s n (λ i q. Occurs i q (variable k r))
      go true test h =
          let is = (Decides-and (nat_eq (number k r) m) (nat_eq r s) (Decides-eqb (number k r) m) (Decides-eqb r s)).0 test in
          let same : k ≡ n = same_Some _ _ h in
          record { occurs = (same, is.1); is_number = (λ i. number (sym same i) (sym (is.1) i)) ∙ is.0 }
      go false test h = cc
  unnumbered_sound number (node f ts) m s n e = unnumbered_sound_among number ts m s n e

  unnumbered_sound_among : (number : ℕ → ℕ → ℕ) (ts : Terms) (m s n : ℕ) → unnumbered_among number ts m s ≡ Some n
      → Unnumbered number m s n (λ k q. OccursAmong k q ts)
  unnumbered_sound_among number no_terms m s n e = cc
  unnumbered_sound_among number (term_then t ts) m s n e =
      go (unnumbered number t m s) refl e (λ found. unnumbered_sound number t m s n found)
      (λ found. unnumbered_sound_among number ts m s n found)
    where
      go : (o : Option ℕ) → unnumbered number t m s ≡ o → or_else o (unnumbered_among number ts m s) ≡ Some n
          → (unnumbered number t m s ≡ Some n → Unnumbered number m s n (λ k q. Occurs k q t))
          → (unnumbered_among number ts m s ≡ Some n → Unnumbered number m s n (λ k q. OccursAmong k q ts))
          → Unnumbered number m s n (λ k q. OccursAmong k q (term_then t ts))
      go (Some k) found h first rest = let is = first (found ∙ h) in record { occurs = inl is.occurs; is_number = is.is_number }
      go None found h first rest = let is = rest h in record { occurs = inr is.occurs; is_number = is.is_number }

mutual
  unnumbered_finds : (number : ℕ → ℕ → ℕ) (t : Term) (n s : ℕ) → Occurs n s t
      → (k : ℕ) × (unnumbered number t (number n s) s ≡ Some k)
  unnumbered_finds number (variable m r) n s o =
      go (nat_eq (number m r) (number n s) && nat_eq r s) refl
    where
      go : (b : Bool) → (nat_eq (number m r) (number n s) && nat_eq r s) ≡ b
          → (k : ℕ) × ((if b then Some m else None) ≡ Some k)
      go true test = (m, refl)
      go false test =
          let is = (Decides-and (nat_eq (number m r) (number n s)) (nat_eq r s) (Decides-eqb (number m r) (number n s))
          (Decides-eqb r s)).1
          ((λ i. number (o.0 i) (o.1 i)), o.1) in
          cc
  unnumbered_finds number (node f ts) n s o = unnumbered_finds_among number ts n s o

  unnumbered_finds_among : (number : ℕ → ℕ → ℕ) (ts : Terms) (n s : ℕ) → OccursAmong n s ts
      → (k : ℕ) × (unnumbered_among number ts (number n s) s ≡ Some k)
  unnumbered_finds_among number no_terms n s o = absurd o
  unnumbered_finds_among number (term_then t ts) n s (inl o) =
      let first = unnumbered_finds number t n s o in
      (first.0, ap (λ p. or_else p (unnumbered_among number ts (number n s) s)) first.1)
  unnumbered_finds_among number (term_then t ts) n s (inr o) =
      go (unnumbered number t (number n s) s) (unnumbered_finds_among number ts n s o)
    where
      go : (p : Option ℕ) → (k : ℕ) × (unnumbered_among number ts (number n s) s ≡ Some k)
          → (k : ℕ) × (or_else p (unnumbered_among number ts (number n s) s) ≡ Some k)
      go (Some k) rest = (k, refl)
      go None rest = rest

-- where the renaming keeps variables apart, the variable itself is found
pub unnumbered_found : (number : ℕ → ℕ → ℕ) (t : Term) (n s : ℕ) → KeepsApart number t → Occurs n s t
    → unnumbered number t (number n s) s ≡ Some n
unnumbered_found number t n s keeps o =
    let found = unnumbered_finds number t n s o in
    let is = unnumbered_sound number t (number n s) s found.0 found.1 in
    found.1 ∙ ap (λ (k : ℕ). Some k) (keeps found.0 n s is.occurs o is.is_number)

-- ---- Two substitutions as one

abbrev given_by : Option ℕ → Substitution → Substitution → Substitution
given_by (Some n) values others m s = others n s
given_by None values others m s = values m s

-- The second substitution at the renamed variables of the term, the first one elsewhere.
abbrev pub combined : (ℕ → ℕ → ℕ) → Term → Substitution → Substitution → Substitution
combined number t values others m s = given_by (unnumbered number t m s) values others m s

pub combined_second : (number : ℕ → ℕ → ℕ) (t : Term) (values others : Substitution) → KeepsApart number t → (n s : ℕ)
    → Occurs n s t → combined number t values others (number n s) s ≡ others n s
combined_second number t values others keeps n s o =
    ap (λ p. given_by p values others (number n s) s) (unnumbered_found number t n s keeps o)

-- the renamed term under the combination is the term under the second substitution, also where it has fewer variables
pub combined_renamed : (number : ℕ → ℕ → ℕ) (t u : Term) (values others : Substitution) → KeepsApart number t
    → ((n s : ℕ) → Occurs n s u → Occurs n s t)
    → substituted (combined number t values others) (substituted (renaming number) u) ≡ substituted others u
combined_renamed number t u values others keeps occurring =
    substituted_twice (renaming number) (combined number t values others) u
    ∙ substituted_agree (followed_by (renaming number) (combined number t values others)) others u
    (λ n s o. combined_second number t values others keeps n s (occurring n s o))

pub combined_first : (number : ℕ → ℕ → ℕ) (s t : Term) (values others : Substitution)
    → AreApart s (substituted (renaming number) t) → (n r : ℕ) → Occurs n r s
    → combined number t values others n r ≡ values n r
combined_first number s t values others apart n r o = go (unnumbered number t n r) refl
  where
    go : (p : Option ℕ) → unnumbered number t n r ≡ p → given_by p values others n r ≡ values n r
    go (Some k) found =
        let is = unnumbered_sound number t n r k found in
        absurd (apart n r o (occurs_substituted n r k r (renaming number) t is.occurs (is.is_number, refl)))
    go None found = refl

pub combined_kept : (number : ℕ → ℕ → ℕ) (s t u : Term) (values others : Substitution)
    → AreApart s (substituted (renaming number) t) → ((n r : ℕ) → Occurs n r u → Occurs n r s)
    → substituted (combined number t values others) u ≡ substituted values u
combined_kept number s t u values others apart occurring =
    substituted_agree (combined number t values others) values u
    (λ n r o. combined_first number s t values others apart n r (occurring n r o))

-- what two substitutions make one, the combination makes one, when the second term is renamed apart
pub combination_unifies : (number : ℕ → ℕ → ℕ) (s t part : Term) (values others : Substitution) → KeepsApart number t
    → AreApart s (substituted (renaming number) t) → ((n r : ℕ) → Occurs n r part → Occurs n r s)
    → substituted values part ≡ substituted others t
    → IsUnifier part (substituted (renaming number) t) (combined number t values others)
combination_unifies number s t part values others keeps apart occurring same =
    combined_kept number s t part values others apart occurring
    ∙ same
    ∙ sym (combined_renamed number t t values others keeps (λ n r o. o))

-- the variables of a subterm occur in the term
occurs_argument : (k : ℕ) (t : Term) (ts : Terms) (n s : ℕ) → argument_at k ts ≡ Some t → Occurs n s t → OccursAmong n s ts
occurs_argument k t no_terms n s e o = cc
occurs_argument zero t (term_then u ts) n s e o = inl (subst (λ (w : Term). Occurs n s w) (sym (same_Some u t e)) o)
occurs_argument (suc k) t (term_then u ts) n s e o = inr (occurs_argument k t ts n s e o)

pub subterm_occurs : (path : List ℕ) (t part : Term) (n s : ℕ) → subterm path t ≡ Some part → Occurs n s part → Occurs n s t
subterm_occurs [] t part n s e o = subst (λ (w : Term). Occurs n s w) (sym (same_Some t part e)) o
subterm_occurs (k ∷ path) (variable m r) part n s e o = cc
subterm_occurs (k ∷ path) (node f ts) part n s e o =
    let below = subterm_below k path f ts part e in
    occurs_argument k below.argument ts n s below.found (subterm_occurs path below.argument part n s below.inside o)

-- ---- An overlap is an instance of a critical pair

-- What a critical pair's place has to do with an overlap: the pair's terms are made what the rules make of the overlap.
pub record IsInstanceOf (pair : CriticalPair) (left peak right : Term) : Type 0 where
  pub rest : Substitution
  pub is_left : substituted rest pair.left ≡ left
  pub is_peak : substituted rest pair.peak ≡ peak
  pub is_right : put_at pair.path right peak ≡ Some (substituted rest pair.right)

-- the combination of the two substitutions of the overlap
abbrev both_values : {rules : List Rule} {pair : CriticalPair} → IsCriticalPair rules pair → Substitution → Substitution → Substitution
both_values is values others = combined is.number is.place.second_rule.left values others

-- the second left side, renamed apart
abbrev pub second_left : {rules : List Rule} {pair : CriticalPair} → IsCriticalPair rules pair → Term
second_left is = substituted (renaming is.number) is.place.second_rule.left

-- it is a unifier, since the overlap is a common instance
both_unify : {rules : List Rule} {pair : CriticalPair} (is : IsCriticalPair rules pair) (values others : Substitution)
    → substituted values is.place.part ≡ substituted others is.place.second_rule.left
    → IsUnifier is.place.part (second_left is) (both_values is values others)
both_unify {pair = pair} is values others same =
    combination_unifies is.number is.place.first_rule.left is.place.second_rule.left is.place.part values others is.keeps is.apart
    (λ n r o. subterm_occurs pair.path is.place.first_rule.left is.place.part n r is.place.is_part o)
    same

covered_with : {rules : List Rule} {pair : CriticalPair} (is : IsCriticalPair rules pair) (values others rest : Substitution)
    → AreWellFormedRules rules
    → ((n r : ℕ) → OccursInEither is.place.first_rule.left (second_left is) n r
    → substituted rest (is.values n r) ≡ both_values is values others n r)
    → IsInstanceOf pair (substituted values is.place.first_rule.right) (substituted values is.place.first_rule.left)
    (substituted others is.place.second_rule.right)
covered_with {pair = pair} is values others rest well makes = record {
  rest = rest;
  is_left = ap (substituted rest) (sym is.is_left) ∙ first_made is.place.first_rule.right first_occurring;
  is_peak = ap (substituted rest) (sym is.is_peak) ∙ first_made is.place.first_rule.left (λ n r o. o);
  is_right =
      ap (λ (w : Term). put_at pair.path w (substituted values is.place.first_rule.left)) (sym second_made)
      ∙ ap (λ (w : Term). put_at pair.path (substituted rest
      (substituted is.values (substituted (renaming is.number) is.place.second_rule.right))) w)
      (sym (ap (substituted rest) (sym is.is_peak) ∙ first_made is.place.first_rule.left (λ n r o. o)))
      ∙ put_at-substituted pair.path rest (substituted is.values
      (substituted (renaming is.number) is.place.second_rule.right)) pair.peak pair.right is.is_right;
}
  where
    first_occurring : (n r : ℕ) → Occurs n r is.place.first_rule.right → Occurs n r is.place.first_rule.left
    first_occurring = (well is.place.first_rule (pair.first, is.place.is_first)).occurring

    second_occurring : (n r : ℕ) → Occurs n r is.place.second_rule.right → Occurs n r is.place.second_rule.left
    second_occurring = (well is.place.second_rule (pair.second, is.place.is_second)).occurring

    made : (u : Term) → ((n r : ℕ) → Occurs n r u → OccursInEither is.place.first_rule.left (second_left is) n r)
        → substituted rest (substituted is.values u) ≡ substituted (both_values is values others) u
    made u occurring =
        substituted_twice is.values rest u
        ∙ substituted_agree (followed_by is.values rest) (both_values is values others) u (λ n r o. makes n r (occurring n r o))

    first_made : (u : Term) → ((n r : ℕ) → Occurs n r u → Occurs n r is.place.first_rule.left)
        → substituted rest (substituted is.values u) ≡ substituted values u
    first_made u occurring =
        made u (λ n r o. inl (occurring n r o))
        ∙ combined_kept is.number is.place.first_rule.left is.place.second_rule.left u values others is.apart occurring

    second_made : substituted rest (substituted is.values (substituted (renaming is.number) is.place.second_rule.right))
        ≡ substituted others is.place.second_rule.right
    second_made =
        made (substituted (renaming is.number) is.place.second_rule.right)
        (λ n r o. let from = substituted_occurs n r (renaming is.number) is.place.second_rule.right o in
        inr (occurs_substituted n r from.number from.sort (renaming is.number) is.place.second_rule.left
        (second_occurring from.number from.sort from.occurs) from.inside))
        ∙ combined_renamed is.number is.place.second_rule.left is.place.second_rule.right values others is.keeps second_occurring

pub covered : {rules : List Rule} {pair : CriticalPair} (is : IsCriticalPair rules pair) (values others : Substitution)
    → AreWellFormedRules rules
    → substituted values is.place.part ≡ substituted others is.place.second_rule.left
    → IsInstanceOf pair (substituted values is.place.first_rule.right) (substituted values is.place.first_rule.left)
    (substituted others is.place.second_rule.right)
covered is values others well same =
    let more = is.general.general (both_values is values others) (both_unify is values others same) in
    covered_with is values others more.0 well more.1

-- where the pair joins, so do its instances
pub join_substituted : {rules : List Rule} {t u : Term} (values : Substitution) → Join (Step rules) t u
    → Join (Step rules) (substituted values t) (substituted values u)
join_substituted values join = join_map (substituted values) (λ v w step. step_substituted values step) join

-- an overlap at the place of a critical pair that joins can be joined
pub covered_joins : {rules : List Rule} {pair : CriticalPair} (is : IsCriticalPair rules pair) (values others : Substitution)
    (right : Term)
    → AreWellFormedRules rules → substituted values is.place.part ≡ substituted others is.place.second_rule.left
    → put_at pair.path (substituted others is.place.second_rule.right) (substituted values is.place.first_rule.left) ≡ Some right
    → Join (Step rules) pair.left pair.right → Join (Step rules) (substituted values is.place.first_rule.right) right
covered_joins {rules = rules} {pair = pair} is values others right well same at join =
    let cover = covered is values others well same in
    subst (λ (w : Term). Join (Step rules) w right) cover.is_left
    (subst (λ (w : Term). Join (Step rules) (substituted cover.rest pair.left) w) (same_Some _ _ (sym cover.is_right ∙ at))
    (join_substituted cover.rest join))

-- a critical pair is itself an overlap
pub pair_instance : {rules : List Rule} {pair : CriticalPair} (is : IsCriticalPair rules pair)
    → substituted is.values is.place.part ≡ substituted (followed_by (renaming is.number) is.values) is.place.second_rule.left
pair_instance is = is.general.unifies ∙ substituted_twice (renaming is.number) is.values is.place.second_rule.left

pub pair_overlaps : {rules : List Rule} {pair : CriticalPair} (is : IsCriticalPair rules pair) → Overlaps is.place
pair_overlaps is =
    record { values = is.values; others = followed_by (renaming is.number) is.values; same = pair_instance is }
