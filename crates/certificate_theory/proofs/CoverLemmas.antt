-- Trees of patterns show covers, by induction on the size of irreducible ground terms.
use Rattle.std.proofs.Common.{◌≡◌, ◌<◌, ℕ, zero, suc, ◌+◌, List, [], ◌∷◌, ◌++◌, Bool, true, false, nat_eq, length, refl, ap, sym, ◌∙◌, subst, inl, inr, arith}
use Rattle.std.specs.Prelude.{◌⊎◌, None, Some, slice_get, if◌then◌else◌}
use Rattle.std.proofs.lemmas.Bool.Decides.{Decides-eqb}
use Rattle.std.proofs.lemmas.Option.{same_Some, slice_get_within}
use Rattle.lotos_base.specs.Signature.{Signature, Operation, IsOperation}
use Rattle.lotos_base.specs.Term.{Term, variable, node, Terms}
use Rattle.lotos_base.specs.Sorting.{HaveSorts, IsGroundOf, Occurs}
use Rattle.lotos_base.specs.Substitution.{Substitution, substituted, followed_by, is_listed}
use Rattle.lotos_base.proofs.SubstitutionLemmas.{substituted_twice, substituted_agree}
use Rattle.lotos_base.proofs.Each.{Each}
use Rattle.rewriting_theory.specs.Rule.{Rule, IsRule}
use Rattle.rewriting_theory.specs.Matching.{Matches}
use Rattle.rewriting_theory.specs.Rewriting.{IsNormal}
use Rattle.rewriting_theory.proofs.OverlapLemmas.{subterm_occurs}
use Rattle.certificate_theory.specs.InductionCertificate.{Cover, TreeLine, split_pattern, leaf_here, PatternTree}
use Rattle.certificate_theory.specs.Lines.{DealsWith, AreRightBehind, no_more, right_then}
use Rattle.certificate_theory.specs.Covers.{IsListedIn, IsCoveredBy, cover_of, Numbered, listed_from, in_signature_order, IsRightCover}
use Rattle.certificate_theory.specs.Patterns.{operation_on, Pattern, first_pattern, split_with, split_patterns, PatternComesTo}
use Rattle.certificate_theory.specs.Splits.{Theory}
use Rattle.certificate_theory.specs.Certified.{with_trees, IsRightTree, AreComplete}
use Rattle.certificate_theory.proofs.Each.{each_of_map}
use Rattle.certificate_theory.proofs.LineLemmas.{deals_each}
use Rattle.certificate_theory.proofs.ArgumentLemmas.{size, sizes, IsSmall, AllArguments, small_arguments_of, from_occurs, extended, extended_below, extended_at, extended_terms, replaced, AreOne, replaced_cases, split_instance, put_occurs}

-- ---- the cover of a sort

-- what is found is the cover of the sort
pub cover_found : (covers : List Cover) (s : ℕ) (operations : List ℕ) → cover_of covers s ≡ Some operations
    → (i : ℕ) × (cover : Cover) × (slice_get covers i ≡ Some cover) × (cover.sort ≡ s) × (cover.operations ≡ operations)
cover_found [] s operations e = absurd (cc e)
cover_found (c ∷ cs) s operations e = go (nat_eq c.sort s) refl e (cover_found cs s operations)
  where
    go : (b : Bool) → nat_eq c.sort s ≡ b → (if b then Some c.operations else cover_of cs s) ≡ Some operations
        → (cover_of cs s ≡ Some operations
        → (i : ℕ) × (cover : Cover) × (slice_get cs i ≡ Some cover) × (cover.sort ≡ s) × (cover.operations ≡ operations))
        → (i : ℕ) × (cover : Cover) × (slice_get (c ∷ cs) i ≡ Some cover) × (cover.sort ≡ s) × (cover.operations ≡ operations)
    go true same e later = (0, c, refl, (Decides-eqb c.sort s).0 same, same_Some c.operations operations e)
    go false differ e later = let found = later e in (suc found.0, found.1, found.2, found.3, found.4)

none_front : (xs ys : List Cover) (s : ℕ) → cover_of (xs ++ ys) s ≡ None → cover_of xs s ≡ None
none_front [] ys s e = refl
none_front (c ∷ cs) ys s e = go (nat_eq c.sort s) e (none_front cs ys s)
  where
    go : (b : Bool) → (if b then Some c.operations else cover_of (cs ++ ys) s) ≡ None
        → (cover_of (cs ++ ys) s ≡ None → cover_of cs s ≡ None) → (if b then Some c.operations else cover_of cs s) ≡ None
    go true e later = e
    go false e later = later e

none_back : (xs ys : List Cover) (s : ℕ) → cover_of (xs ++ ys) s ≡ None → cover_of ys s ≡ None
none_back [] ys s e = e
none_back (c ∷ cs) ys s e = go (nat_eq c.sort s) e (none_back cs ys s)
  where
    go : (b : Bool) → (if b then Some c.operations else cover_of (cs ++ ys) s) ≡ None
        → (cover_of (cs ++ ys) s ≡ None → cover_of ys s ≡ None) → cover_of ys s ≡ None
    go true e later = absurd (cc e)
    go false e later = later e

-- the sort of a right cover has none before
none_before : {signature : Signature} {earlier covers : List Cover} (i : ℕ) (cover : Cover)
    → AreRightBehind (IsRightCover signature) earlier covers → slice_get covers i ≡ Some cover → cover_of earlier cover.sort ≡ None
none_before i cover no_more at = absurd (cc at)
none_before zero cover (right_then {earlier = earlier} {x = x} right rest) at =
    subst (λ (c : Cover). cover_of earlier c.sort ≡ None) (same_Some x cover at) right.only_one
none_before (suc i) cover (right_then {earlier = earlier} {x = x} right rest) at =
    none_front earlier (x ∷ []) cover.sort (none_before i cover rest at)

-- so it is the cover that is found
pub cover_is_found : {signature : Signature} {earlier covers : List Cover} (i : ℕ) (cover : Cover)
    → AreRightBehind (IsRightCover signature) earlier covers → slice_get covers i ≡ Some cover
    → cover_of covers cover.sort ≡ Some cover.operations
cover_is_found i cover no_more at = absurd (cc at)
cover_is_found zero cover (right_then {xs = xs} {x = x} right rest) at =
    subst (λ (c : Cover). cover_of (x ∷ xs) c.sort ≡ Some c.operations) (same_Some x cover at)
    (rw ((Decides-eqb x.sort x.sort).1 refl) refl)
cover_is_found (suc i) cover (right_then {earlier = earlier} {xs = xs} {x = x} right rest) at =
    go (nat_eq x.sort cover.sort) (none_back earlier (x ∷ []) cover.sort (none_before i cover rest at))
    (cover_is_found i cover rest at)
  where
    go : (b : Bool) → (if b then Some x.operations else None) ≡ None → cover_of xs cover.sort ≡ Some cover.operations
        → (if b then Some x.operations else cover_of xs cover.sort) ≡ Some cover.operations
    go true none found = absurd (cc none)
    go false none found = found

-- what holds of each operation that is listed holds of one of them
pub each_listed : (P : Numbered → Type 0) (numbers : List ℕ) (n : ℕ) (os : List Operation) (i m : ℕ) (o : Operation)
    → Each P (listed_from numbers n os) → IsListedIn numbers m → m ≡ n + i → slice_get os i ≡ Some o
    → P (record { number = m; operation = o })
each_listed P numbers n [] i m o h among e at = absurd (cc at)
each_listed P numbers n (x ∷ xs) zero m o h among e at = go (is_listed numbers n) refl h
  where
    same : n ≡ m
    same = omega (arith, e)

    go : (b : Bool) → is_listed numbers n ≡ b
        → Each P (if b then record { number = n; operation = x } ∷ listed_from numbers (suc n) xs else listed_from numbers (suc n) xs)
        → P (record { number = m; operation = o })
    go true there h =
        subst (λ (k : ℕ). P (record { number = k; operation = o })) same
        (subst (λ (q : Operation). P (record { number = n; operation = q })) (same_Some x o at) h.0)
    go false none h =
        let there : is_listed numbers n ≡ true = subst (λ (k : ℕ). is_listed numbers k ≡ true) (sym same) among in
        absurd (cc (none, there))
each_listed P numbers n (x ∷ xs) (suc i) m o h among e at =
    go (is_listed numbers n) h (λ rest. each_listed P numbers (suc n) xs i m o rest among (omega (arith, e)) at)
  where
    go : (b : Bool)
        → Each P (if b then record { number = n; operation = x } ∷ listed_from numbers (suc n) xs else listed_from numbers (suc n) xs)
        → (Each P (listed_from numbers (suc n) xs) → P (record { number = m; operation = o }))
        → P (record { number = m; operation = o })
    go true h later = later h.1
    go false h later = later h

-- ---- patterns without an irreducible instance

-- The variables of a pattern are below its next one.
abbrev IsFinePattern : Pattern → Type 0
IsFinePattern pattern = (n s : ℕ) → Occurs n s pattern.term → n < pattern.next

-- No instance of the pattern by ground irreducible terms below a size is irreducible.
abbrev HasNoForm : Signature → List Rule → ℕ → Pattern → Type 0
HasNoForm signature rules k pattern = IsFinePattern pattern → (values : Substitution)
    → ((n s : ℕ) → Occurs n s pattern.term → IsSmall signature rules k s (values n s))
    → ¬ IsNormal rules (substituted values pattern.term)

-- The covers hold below a size.
abbrev pub IsCoveredBelow : Signature → List Rule → List Cover → ℕ → Type 0
IsCoveredBelow signature rules covers k = (s : ℕ) (operations : List ℕ) (f : ℕ) (ts : Terms) → cover_of covers s ≡ Some operations
    → IsSmall signature rules k s (node f ts) → IsListedIn operations f

leaf_no_form : (signature : Signature) (rules : List Rule) (k : ℕ) (pattern : Pattern) (rule : Rule) → IsRule rules rule
    → Matches rule.left pattern.term → HasNoForm signature rules k pattern
leaf_no_form signature rules k pattern rule is match fine values small normal =
    normal (substituted (followed_by match.0 values) rule.right) (record {
      path = [];
      rule = rule;
      is_rule = is;
      values = followed_by match.0 values;
      old = ap (λ (t : Term). Some t) (ap (substituted values) (sym match.1) ∙ substituted_twice match.0 values rule.left);
      new = refl;
    })

-- the pattern for one operation, at the arguments of a term
operation_no_form : (signature : Signature) (rules : List Rule) (k : ℕ) (pattern : Pattern) (n s : ℕ) (one : Numbered) (ts : Terms)
    (values : Substitution) → HasNoForm signature rules k (split_with pattern n s one) → IsFinePattern pattern
    → ((m r : ℕ) → Occurs m r pattern.term → IsSmall signature rules k r (values m r))
    → node one.number ts ≡ values n s → HaveSorts signature ts one.operation.arguments
    → AllArguments (IsSmall signature rules k) ts one.operation.arguments
    → ¬ IsNormal rules (substituted values pattern.term)
operation_no_form signature rules k pattern n s one ts values none fine small same sorts arguments normal =
    none (λ m r o. part_fine m r (put_occurs n s (operation_on one pattern.next) pattern.term m r o))
    (extended pattern.next ts values)
    (λ m r o. part_small m r (put_occurs n s (operation_on one pattern.next) pattern.term m r o))
    (subst (IsNormal rules) (sym instance) normal)
  where
    part_fine : (m r : ℕ)
        → (Occurs m r pattern.term × (¬ AreOne n s m r)) ⊎ (Occurs n s pattern.term × Occurs m r (operation_on one pattern.next))
        → m < pattern.next + length one.operation.arguments
    part_fine m r (inl (o, differ)) = let less = fine m r o in omega (arith, less)
    part_fine m r (inr (o, inside)) =
        let new = from_occurs one.operation.arguments pattern.next m r inside in
        let e = new.1 in
        let within = slice_get_within one.operation.arguments new.0 r new.2 in
        omega (arith, e, within)

    part_small : (m r : ℕ)
        → (Occurs m r pattern.term × (¬ AreOne n s m r)) ⊎ (Occurs n s pattern.term × Occurs m r (operation_on one pattern.next))
        → IsSmall signature rules k r (extended pattern.next ts values m r)
    part_small m r (inl (o, differ)) =
        subst (IsSmall signature rules k r) (sym (extended_below ts pattern.next values m r (fine m r o))) (small m r o)
    part_small m r (inr (o, inside)) =
        let new = from_occurs one.operation.arguments pattern.next m r inside in
        extended_at (IsSmall signature rules k) ts one.operation.arguments pattern.next values new.0 m r arguments new.2 new.1

    instance : substituted (extended pattern.next ts values) (split_with pattern n s one).term ≡ substituted values pattern.term
    instance =
        split_instance signature one pattern.next ts values n s pattern.term sorts (λ m r o differ. fine m r o)
        ∙ substituted_agree (replaced values n s (node one.number ts)) values pattern.term
        (λ m r o. replaced_cases (λ j q t. t ≡ values j q) values n s (node one.number ts) same m r (λ differ. refl))

split_no_form : (signature : Signature) (rules : List Rule) (covers : List Cover) (k : ℕ) (pattern : Pattern) (n s : ℕ)
    (operations : List ℕ) → IsCoveredBelow signature rules covers k → Occurs n s pattern.term
    → cover_of covers s ≡ Some operations → Each (HasNoForm signature rules k) (split_patterns signature pattern n s operations)
    → HasNoForm signature rules k pattern
split_no_form signature rules covers k pattern n s operations covered occurs cover parts fine values small normal =
    go (values n s) refl (small n s occurs)
  where
    go : (u : Term) → u ≡ values n s → IsSmall signature rules k s u → ⊥
    go (variable m r) e is = is.ground_of.ground
    go (node f ts) e is =
        let sorted = is.ground_of.sorted in
        let less = is.small in
        let one : Numbered = record { number = f; operation = sorted.0 } in
        let part = each_listed (λ (o : Numbered). HasNoForm signature rules k (split_with pattern n s o)) operations 0
        signature.operations f f sorted.0
        (each_of_map (split_with pattern n s) (HasNoForm signature rules k) (in_signature_order signature operations) parts)
        (covered s operations f ts cover is) (omega arith) sorted.1 in
        operation_no_form signature rules k pattern n s (record { number = f; operation = sorted.0 }) ts values part fine small e sorted.3
        (small_arguments_of signature rules k f ts sorted.0.arguments is.ground_of.ground sorted.3 is.normal (omega (arith, less)))
        normal

-- what a line comes to
line_no_form : (signature : Signature) (rules : List Rule) (covers : List Cover) (k : ℕ) → IsCoveredBelow signature rules covers k
    → (pattern : Pattern) (line : TreeLine) (parts : List Pattern) → PatternComesTo signature rules covers pattern line parts
    → Each (HasNoForm signature rules k) parts → HasNoForm signature rules k pattern
line_no_form signature rules covers k covered pattern leaf_here parts comes each =
    leaf_no_form signature rules k pattern comes.0.0 comes.0.1 comes.0.2
line_no_form signature rules covers k covered pattern (split_pattern path) parts comes each =
    split_no_form signature rules covers k pattern comes.0 comes.1 comes.2 covered
    (subterm_occurs path pattern.term (variable comes.0 comes.1) comes.0 comes.1 comes.3 (refl, refl)) comes.4
    (subst (Each (HasNoForm signature rules k)) comes.5 each)

-- ---- covers hold

-- the lines of the tree of an operation
pub tree_of : (theory : Theory) (covers : List Cover) {earlier trees : List PatternTree} (f : ℕ) (operation : Operation)
    → AreRightBehind (IsRightTree theory covers) earlier trees → IsListedIn (with_trees trees) f
    → IsOperation theory.data_.signature f operation
    → (lines : List TreeLine) × DealsWith (PatternComesTo theory.data_.signature theory.rules covers)
    (first_pattern (record { number = f; operation = operation }) ∷ []) lines
tree_of theory covers f operation no_more among is = absurd (cc among)
tree_of theory covers f operation (right_then {xs = xs} {x = x} right rest) among is =
    go (nat_eq x.operation f) refl among (λ later. tree_of theory covers f operation rest later is)
  where
    go : (b : Bool) → nat_eq x.operation f ≡ b → (if b then true else is_listed (with_trees xs) f) ≡ true
        → (IsListedIn (with_trees xs) f
        → (lines : List TreeLine) × DealsWith (PatternComesTo theory.data_.signature theory.rules covers)
        (first_pattern (record { number = f; operation = operation }) ∷ []) lines)
        → (lines : List TreeLine) × DealsWith (PatternComesTo theory.data_.signature theory.rules covers)
        (first_pattern (record { number = f; operation = operation }) ∷ []) lines
    go true e among later =
        let same : x.operation ≡ f = (Decides-eqb x.operation f).0 e in
        let is_there = subst (λ (g : ℕ). IsOperation theory.data_.signature g operation) (sym same) is in (
          x.lines,
          subst (λ (g : ℕ). DealsWith (PatternComesTo theory.data_.signature theory.rules covers)
              (first_pattern (record { number = g; operation = operation }) ∷ []) x.lines) same (right.1 operation is_there),
        )
    go false e among later = later among

-- an operation with a tree begins no irreducible ground term
tree_no_form : (theory : Theory) (covers : List Cover) (k s f : ℕ) (ts : Terms) (lines : List TreeLine)
    → IsCoveredBelow theory.data_.signature theory.rules covers k
    → (is : IsGroundOf theory.data_.signature s (node f ts))
    → DealsWith (PatternComesTo theory.data_.signature theory.rules covers)
    (first_pattern (record { number = f; operation = is.sorted.0 }) ∷ []) lines
    → sizes ts < k → ¬ IsNormal theory.rules (node f ts)
tree_no_form theory covers k s f ts lines covered is deals less normal =
    (deals_each (HasNoForm theory.data_.signature theory.rules k)
    (line_no_form theory.data_.signature theory.rules covers k covered) deals).0
    (λ m r o. below m r (from_occurs is.sorted.0.arguments 0 m r o))
    (extended 0 ts variable)
    (λ m r o. small m r (from_occurs is.sorted.0.arguments 0 m r o))
    (subst (IsNormal theory.rules)
    (ap (λ (us : Terms). node f us) (sym (extended_terms theory.data_.signature ts is.sorted.0.arguments 0 variable is.sorted.3))) normal)
  where
    below : (m r : ℕ) → (i : ℕ) × (m ≡ 0 + i) × (slice_get is.sorted.0.arguments i ≡ Some r) → m < length is.sorted.0.arguments
    below m r (i, e, at) = let within = slice_get_within is.sorted.0.arguments i r at in omega (arith, e, within)

    small : (m r : ℕ) → (i : ℕ) × (m ≡ 0 + i) × (slice_get is.sorted.0.arguments i ≡ Some r)
        → IsSmall theory.data_.signature theory.rules k r (extended 0 ts variable m r)
    small m r (i, e, at) =
        extended_at (IsSmall theory.data_.signature theory.rules k) ts is.sorted.0.arguments 0 variable i m r
        (small_arguments_of theory.data_.signature theory.rules k f ts is.sorted.0.arguments is.ground is.sorted.3 normal
        (omega (arith, less)))
        at e

-- so the covers hold below each size
pub covered_below : (theory : Theory) (covers : List Cover) (trees : List PatternTree)
    → AreComplete theory.data_.signature covers trees → AreRightBehind (IsRightTree theory covers) [] trees
    → (k : ℕ) → IsCoveredBelow theory.data_.signature theory.rules covers k
covered_below theory covers trees complete right zero s operations f ts e is = let less = is.small in absurd (omega (arith, less))
covered_below theory covers trees complete right (suc k) s operations f ts e is =
    go (cover_found covers s operations e) (covered_below theory covers trees complete right k)
  where
    go : (i : ℕ) × (cover : Cover) × (slice_get covers i ≡ Some cover) × (cover.sort ≡ s) × (cover.operations ≡ operations)
        → IsCoveredBelow theory.data_.signature theory.rules covers k → IsListedIn operations f
    go (i, cover, at, sort, listed) covered =
        by_tree (complete i f cover is.ground_of.sorted.0 at is.ground_of.sorted.1 (is.ground_of.sorted.2 ∙ sym sort))
      where
        by_tree : IsListedIn cover.operations f ⊎ IsListedIn (with_trees trees) f → IsListedIn operations f
        by_tree (inl among) = subst (λ (fs : List ℕ). IsListedIn fs f) listed among
        by_tree (inr tree) =
            let less = is.small in
            let lines = tree_of theory covers f is.ground_of.sorted.0 right tree is.ground_of.sorted.1 in
            absurd (tree_no_form theory covers k s f ts lines.0 covered is.ground_of lines.1 (omega (arith, less)) is.normal)

-- the sort of each cover is covered
pub sort_covered : (theory : Theory) (covers : List Cover) (trees : List PatternTree) (s : ℕ) (operations : List ℕ)
    → AreComplete theory.data_.signature covers trees → AreRightBehind (IsRightTree theory covers) [] trees
    → cover_of covers s ≡ Some operations → IsCoveredBy theory.data_.signature theory.rules s operations
sort_covered theory covers trees s operations complete right e f ts is normal =
    covered_below theory covers trees complete right (suc (size (node f ts))) s operations f ts e
    (record { ground_of = is; normal = normal; small = omega arith })
