-- Terms that are instances of one another, with their variables numbered by first appearance and of one sort, are one
-- term; so two critical pairs at one place are one pair.
use Rattle.std.proofs.Common.{◌≡◌, ◌<◌, ℕ, zero, suc, List, [], ◌∷◌, ◌++◌, map, refl, ap, sym, ◌∙◌, subst, inl, inr, arith}
use Rattle.std.specs.Prelude.{◌⊎◌, Some, slice_get}
use Rattle.std.proofs.lemmas.Option.{same_Some}
use Rattle.std.proofs.lemmas.List.{map-append}
use Rattle.lotos_base.proofs.Members.{from_map, at_map}
use Rattle.lotos_base.specs.Signature.{Signature}
use Rattle.lotos_base.specs.Term.{Term, variable, node, Terms, no_terms, term_then}
use Rattle.lotos_base.specs.Sorting.{HasSort, Occurs, OccursAmong}
use Rattle.lotos_base.specs.Substitution.{Substitution, substituted, all_substituted, followed_by, renaming}
use Rattle.lotos_base.proofs.SubstitutionLemmas.{occurs_substituted, substituted_twice, substituted_agree, substituted_variables}
use Rattle.lotos_base.specs.Path.{put_at}
use Rattle.rewriting_theory.specs.Rule.{Rule, AreWellFormedRules}
use Rattle.rewriting_theory.specs.CriticalPair.{CriticalPair, IsCriticalPair}
use Rattle.rewriting_theory.specs.PairList.{PairPlace, place_of_critical_pair}
use Rattle.rewriting_theory.specs.Numbering.{variable_numbers, all_variable_numbers, IsNumbered}
use Rattle.rewriting_theory.proofs.LocalLemmas.{values_same}
use Rattle.rewriting_theory.proofs.SortedSteps.{keeps_back, step_occurs}
use Rattle.rewriting_theory.proofs.OverlapLemmas.{covered, pair_instance}
use Rattle.rewriting_theory.proofs.PairLemmas.{pair_at, same_place, peak_left, peak_right}
use Rattle.rewriting_theory.proofs.PairListLemmas.{neither_less}
use Rattle.rewriting_theory.proofs.PlaceListLemmas.{IsIn, in_left, in_right, in_either, in_index, index_in}

-- ---- The variables of a term, from left to right

abbrev mutual
  pub variable_list : Term → List (ℕ × ℕ)
  variable_list (variable n s) = (n, s) ∷ []
  variable_list (node f ts) = all_variable_list ts

  all_variable_list : Terms → List (ℕ × ℕ)
  all_variable_list no_terms = []
  all_variable_list (term_then t ts) = variable_list t ++ all_variable_list ts

abbrev pub first_of_pair : ℕ × ℕ → ℕ
first_of_pair v = v.0

mutual
  pub numbers_of_list : (t : Term) → variable_numbers t ≡ map first_of_pair (variable_list t)
  numbers_of_list (variable n s) = refl
  numbers_of_list (node f ts) = all_numbers_of_list ts

  all_numbers_of_list : (ts : Terms) → all_variable_numbers ts ≡ map first_of_pair (all_variable_list ts)
  all_numbers_of_list no_terms = refl
  all_numbers_of_list (term_then t ts) =
      (λ i. numbers_of_list t i ++ all_numbers_of_list ts i) ∙ sym (map-append first_of_pair (variable_list t) (all_variable_list ts))

-- ---- A substitution that gives variables for variables

-- The number of a variable.
abbrev pub number_in : Term → ℕ
number_in (variable m r) = m
number_in (node f ts) = 0

-- The substitution gives each variable of the term a variable of its sort.
abbrev GivesVariables : Substitution → Term → Type 0
GivesVariables values t = (n s : ℕ) → Occurs n s t → values n s ≡ variable (number_in (values n s)) s

-- a variable with its new number
abbrev pub renumbered : Substitution → ℕ × ℕ → ℕ × ℕ
renumbered values v = (number_in (values v.0 v.1), v.1)

mutual
  pub list_renumbered : (values : Substitution) (t : Term) → GivesVariables values t
      → variable_list (substituted values t) ≡ map (renumbered values) (variable_list t)
  list_renumbered values (variable n s) gives = ap variable_list (gives n s (refl, refl))
  list_renumbered values (node f ts) gives = all_list_renumbered values ts gives

  all_list_renumbered : (values : Substitution) (ts : Terms)
      → ((n s : ℕ) → OccursAmong n s ts → values n s ≡ variable (number_in (values n s)) s)
      → all_variable_list (all_substituted values ts) ≡ map (renumbered values) (all_variable_list ts)
  all_list_renumbered values no_terms gives = refl
  all_list_renumbered values (term_then t ts) gives =
      (λ i. list_renumbered values t (λ n s o. gives n s (inl o)) i ++ all_list_renumbered values ts (λ n s o. gives n s (inr o)) i)
      ∙ sym (map-append (renumbered values) (variable_list t) (all_variable_list ts))

-- a member of the list occurs, and what occurs is a member
mutual
  member_occurs : (t : Term) (v : ℕ × ℕ) → IsIn v (variable_list t) → Occurs v.0 v.1 t
  member_occurs (variable n s) v (inl e) = (ap (λ (w : ℕ × ℕ). w.0) e, ap (λ (w : ℕ × ℕ). w.1) e)
  member_occurs (variable n s) v (inr is) = absurd is
  member_occurs (node f ts) v is = all_member_occurs ts v is

  all_member_occurs : (ts : Terms) (v : ℕ × ℕ) → IsIn v (all_variable_list ts) → OccursAmong v.0 v.1 ts
  all_member_occurs no_terms v is = absurd is
  all_member_occurs (term_then t ts) v is =
      go (in_either v (variable_list t) (all_variable_list ts) is) (member_occurs t v) (all_member_occurs ts v)
    where
      go : IsIn v (variable_list t) ⊎ IsIn v (all_variable_list ts) → (IsIn v (variable_list t) → Occurs v.0 v.1 t)
          → (IsIn v (all_variable_list ts) → OccursAmong v.0 v.1 ts) → OccursAmong v.0 v.1 (term_then t ts)
      go (inl here) first rest = inl (first here)
      go (inr there) first rest = inr (rest there)

mutual
  pub occurs_member : (t : Term) (n s : ℕ) → Occurs n s t → IsIn (n, s) (variable_list t)
  occurs_member (variable m r) n s o = inl (λ i. (o.0 i, o.1 i))
  occurs_member (node f ts) n s o = all_occurs_member ts n s o

  all_occurs_member : (ts : Terms) (n s : ℕ) → OccursAmong n s ts → IsIn (n, s) (all_variable_list ts)
  all_occurs_member no_terms n s o = absurd o
  all_occurs_member (term_then t ts) n s (inl o) =
      in_left (n, s) (variable_list t) (all_variable_list ts) (occurs_member t n s o)
  all_occurs_member (term_then t ts) n s (inr o) =
      in_right (n, s) (variable_list t) (all_variable_list ts) (all_occurs_member ts n s o)

-- ---- Instances of one another

-- The two terms are instances of one another, of one sort, and their variables are numbered by first appearance.
record AreMutual (signature : Signature) (sort : ℕ) (t u : Term) (on back : Substitution) : Type 0 where
  there : substituted on t ≡ u
  again : substituted back u ≡ t
  one_sort : HasSort signature t sort
  other_sort : HasSort signature u sort
  one_numbered : IsNumbered t
  other_numbered : IsNumbered u

-- what is put for a variable goes back to it
undone_at : {signature : Signature} {sort : ℕ} {t u : Term} {on back : Substitution} → AreMutual signature sort t u on back → (n s : ℕ)
    → Occurs n s t → substituted back (on n s) ≡ variable n s
undone_at {t = t} {on = on} {back = back} both n s o =
    values_same (followed_by on back) variable t
    (sym (substituted_twice on back t) ∙ ap (substituted back) both.there ∙ both.again ∙ sym (substituted_variables t)) n s o

variable_of_sort : (signature : Signature) (back : Substitution) (w : Term) (n s : ℕ) → HasSort signature w s
    → substituted back w ≡ variable n s → w ≡ variable (number_in w) s
variable_of_sort signature back (variable m r) n s h e = λ i. variable m (h.0 i)
variable_of_sort signature back (node f ts) n s h e = cc

gives_variables : {signature : Signature} {sort : ℕ} {t u : Term} {on back : Substitution} → AreMutual signature sort t u on back
    → GivesVariables on t
gives_variables {signature = signature} {sort = sort} {t = t} {on = on} {back = back} both n s o =
    variable_of_sort signature back (on n s) n s
    (keeps_back signature on t sort both.one_sort (subst (λ (w : Term). HasSort signature w sort) (sym both.there) both.other_sort) n s o)
    (undone_at both n s o)

-- the new number of the variable at a position
abbrev new_number : Substitution → ℕ × ℕ → ℕ
new_number on v = number_in (on v.0 v.1)

-- the numbers of the second term
other_numbers : {signature : Signature} {sort : ℕ} {t u : Term} {on back : Substitution} → AreMutual signature sort t u on back
    → variable_numbers u ≡ map first_of_pair (map (renumbered on) (variable_list t))
other_numbers {t = t} {u = u} {on = on} both =
    numbers_of_list u
    ∙ ap (λ (w : Term). map first_of_pair (variable_list w)) (sym both.there)
    ∙ ap (map first_of_pair) (list_renumbered on t (gives_variables both))

-- The variable at the position keeps its number.
abbrev KeepsNumber : Substitution → List (ℕ × ℕ) → ℕ → Type 0
KeepsNumber on vs i = (v : ℕ × ℕ) → slice_get vs i ≡ Some v → new_number on v ≡ v.0

-- a renumbered variable occurs in the second term
occurs_there : {signature : Signature} {sort : ℕ} {t u : Term} {on back : Substitution} → AreMutual signature sort t u on back
    → (v : ℕ × ℕ) → Occurs v.0 v.1 t → Occurs (new_number on v) v.1 u
occurs_there {t = t} {on = on} both v o =
    subst (λ (x : Term). Occurs (new_number on v) v.1 x) both.there
    (occurs_substituted (new_number on v) v.1 v.0 v.1 on t o
    (subst (λ (x : Term). Occurs (new_number on v) v.1 x) (sym (gives_variables both v.0 v.1 o)) (refl, refl)))

-- variables with one new number have one number
one_number : {signature : Signature} {sort : ℕ} {t u : Term} {on back : Substitution} → AreMutual signature sort t u on back
    → (v w : ℕ × ℕ) → Occurs v.0 v.1 t → Occurs w.0 w.1 t → new_number on v ≡ new_number on w → v.0 ≡ w.0
one_number {u = u} {on = on} {back = back} both v w one two numbers = variables_of_one back_same
  where
    sorts : v.1 ≡ w.1
    sorts =
        both.other_numbered.one_sort (new_number on w) v.1 w.1
        (subst (λ (k : ℕ). Occurs k v.1 u) numbers (occurs_there both v one)) (occurs_there both w two)

    same : on v.0 v.1 ≡ on w.0 w.1
    same = gives_variables both v.0 v.1 one ∙ (λ k. variable (numbers k) (sorts k)) ∙ sym (gives_variables both w.0 w.1 two)

    back_same : variable v.0 v.1 ≡ variable w.0 w.1
    back_same = sym (undone_at both v.0 v.1 one) ∙ ap (substituted back) same ∙ undone_at both w.0 w.1 two

    variables_of_one : variable v.0 v.1 ≡ variable w.0 w.1 → v.0 ≡ w.0
    variables_of_one e = cc

-- variables with one number have one new number
one_new_number : {signature : Signature} {sort : ℕ} {t u : Term} {on back : Substitution} → AreMutual signature sort t u on back
    → (v w : ℕ × ℕ) → Occurs v.0 v.1 t → Occurs w.0 w.1 t → v.0 ≡ w.0 → new_number on v ≡ new_number on w
one_new_number {t = t} {on = on} both v w one two same =
    let sorts : v.1 ≡ w.1 = both.one_numbered.one_sort w.0 v.1 w.1 (subst (λ (k : ℕ). Occurs k v.1 t) same one) two in
    (λ k. number_in (on (same k) (sorts k)))

-- what stands at a position occurs
occurs_at : (t : Term) (i : ℕ) (v : ℕ × ℕ) → slice_get (variable_list t) i ≡ Some v → Occurs v.0 v.1 t
occurs_at t i v at = member_occurs t v (index_in v (variable_list t) i at)

-- the number at a position of the first term, and of the second one
number_here : (t : Term) (i : ℕ) (v : ℕ × ℕ) → slice_get (variable_list t) i ≡ Some v → slice_get (variable_numbers t) i ≡ Some v.0
number_here t i v at = ap (λ ns. slice_get ns i) (numbers_of_list t) ∙ at_map first_of_pair (variable_list t) i v at

number_there : {signature : Signature} {sort : ℕ} {t u : Term} {on back : Substitution} → AreMutual signature sort t u on back
    → (i : ℕ) (v : ℕ × ℕ) → slice_get (variable_list t) i ≡ Some v → slice_get (variable_numbers u) i ≡ Some (new_number on v)
number_there {t = t} {on = on} both i v at =
    ap (λ ns. slice_get ns i) (other_numbers both)
    ∙ at_map first_of_pair (map (renumbered on) (variable_list t)) i (renumbered on v) (at_map (renumbered on) (variable_list t) i v at)

-- the variable with a number at a position of the first term, and of the second one
variable_here : (t : Term) (i n : ℕ) → slice_get (variable_numbers t) i ≡ Some n
    → (v : ℕ × ℕ) × (slice_get (variable_list t) i ≡ Some v) × (v.0 ≡ n)
variable_here t i n at = from_map first_of_pair (variable_list t) i n (sym (ap (λ ns. slice_get ns i) (numbers_of_list t)) ∙ at)

variable_there : {signature : Signature} {sort : ℕ} {t u : Term} {on back : Substitution} → AreMutual signature sort t u on back
    → (i n : ℕ) → slice_get (variable_numbers u) i ≡ Some n
    → (v : ℕ × ℕ) × (slice_get (variable_list t) i ≡ Some v) × (new_number on v ≡ n)
variable_there {t = t} {on = on} both i n at =
    let image = from_map first_of_pair (map (renumbered on) (variable_list t)) i n (sym (ap (λ ns. slice_get ns i) (other_numbers both))
    ∙ at) in
    let found = from_map (renumbered on) (variable_list t) i image.0 image.1 in
    (found.0, found.1, ap (λ (w : ℕ × ℕ). w.0) found.2 ∙ image.2)

keeps_at : {signature : Signature} {sort : ℕ} {t u : Term} {on back : Substitution} → AreMutual signature sort t u on back → (i : ℕ)
    → ((j : ℕ) → j < i → KeepsNumber on (variable_list t) j) → KeepsNumber on (variable_list t) i
keeps_at {t = t} {u = u} {on = on} both i below v at = neither_less (new_number on v) v.0 not_less not_more
  where
    not_less : new_number on v < v.0 → ⊥
    not_less less =
        let before = both.one_numbered.by_appearance i v.0 (new_number on v) (number_here t i v at) less in
        let other = variable_here t before.0 (new_number on v) before.2 in
        let kept : new_number on other.0 ≡ other.0.0 = below before.0 before.1 other.0 other.1 in
        let is : other.0.0 ≡ new_number on v = other.2 in
        let first : other.0.0 ≡ v.0 =
        one_number both other.0 v (occurs_at t before.0 other.0 other.1) (occurs_at t i v at) (kept ∙ is) in
        absurd (omega (arith, less, first, is))

    not_more : v.0 < new_number on v → ⊥
    not_more less =
        let before = both.other_numbered.by_appearance i (new_number on v) v.0 (number_there both i v at) less in
        let other = variable_there both before.0 v.0 before.2 in
        let kept : new_number on other.0 ≡ other.0.0 = below before.0 before.1 other.0 other.1 in
        let is : new_number on other.0 ≡ v.0 = other.2 in
        let same : new_number on other.0 ≡ new_number on v =
        one_new_number both other.0 v (occurs_at t before.0 other.0 other.1) (occurs_at t i v at) (sym kept ∙ is) in
        absurd (omega (arith, less, same, is))

keeps_below : {signature : Signature} {sort : ℕ} {t u : Term} {on back : Substitution} → AreMutual signature sort t u on back → (k i : ℕ)
    → i < k → KeepsNumber on (variable_list t) i
keeps_below both zero i less = absurd (omega (arith, less))
keeps_below both (suc k) i less = keeps_at both i (λ j smaller. keeps_below both k j (omega (arith, less, smaller)))

-- so each variable stays
stays : {signature : Signature} {sort : ℕ} {t u : Term} {on back : Substitution} → AreMutual signature sort t u on back → (n s : ℕ)
    → Occurs n s t → on n s ≡ variable n s
stays {t = t} {on = on} both n s o =
    let at = in_index (n, s) (variable_list t) (occurs_member t n s o) in
    let number : number_in (on n s) ≡ n = keeps_below both (suc at.0) at.0 (omega arith) (n, s) at.1 in
    gives_variables both n s o ∙ (λ k. variable (number k) s)

-- and each term with no other variables
term_stays : {signature : Signature} {sort : ℕ} {t u : Term} {on back : Substitution} → AreMutual signature sort t u on back → (w : Term)
    → ((n s : ℕ) → Occurs n s w → Occurs n s t) → substituted on w ≡ w
term_stays {on = on} both w occurring =
    substituted_agree on variable w (λ n s o. stays both n s (occurring n s o)) ∙ substituted_variables w

-- ---- Two critical pairs at one place

-- What the second pair's terms are: instances of the first pair's.
record AreInstances (one two : CriticalPair) : Type 0 where
  rest : Substitution
  peak : substituted rest one.peak ≡ two.peak
  left : substituted rest one.left ≡ two.left
  right : substituted rest one.right ≡ two.right

instances_of : {rules : List Rule} {first second : ℕ} {path : List ℕ} (peak left right other one two : Term) → AreWellFormedRules rules
    → IsCriticalPair rules (pair_at first second path peak left right) → IsCriticalPair rules (pair_at first second path other one two)
    → AreInstances (pair_at first second path peak left right) (pair_at first second path other one two)
instances_of {path = path} peak left right other one two well is also =
    let same = same_place also.place is.place in
    let cover = covered is also.values (followed_by (renaming also.number) also.values) well
    (ap (substituted also.values) (sym same.parts)
    ∙ pair_instance also
    ∙ ap (λ (r : Rule). substituted (followed_by (renaming also.number) also.values) r.left) same.second_rules) in
    record {
      rest = cover.rest;
      peak = cover.is_peak ∙ ap (λ (r : Rule). substituted also.values r.left) (sym same.first_rules) ∙ also.is_peak;
      left = cover.is_left ∙ ap (λ (r : Rule). substituted also.values r.right) (sym same.first_rules) ∙ also.is_left;
      right = same_Some (substituted cover.rest right) two
          (sym cover.is_right
          ∙ (λ k. put_at path (substituted (followed_by (renaming also.number) also.values) (sym same.second_rules k).right)
          (substituted also.values (sym same.first_rules k).left))
          ∙ (λ k. put_at path (sym (substituted_twice (renaming also.number) also.values also.place.second_rule.right) k)
          (also.is_peak k))
          ∙ also.is_right);
    }

unique_at : {rules : List Rule} {first second : ℕ} {path : List ℕ} (signature : Signature) (s : ℕ) (peak left right other one two : Term)
    → AreWellFormedRules rules
    → IsCriticalPair rules (pair_at first second path peak left right) → IsCriticalPair rules (pair_at first second path other one two)
    → IsNumbered peak → IsNumbered other → HasSort signature peak s → HasSort signature other s
    → pair_at first second path peak left right ≡ pair_at first second path other one two
unique_at {first = first} {second = second} {path = path} signature s peak left right other one two well is also numbered numbered_too h k =
    let on = instances_of peak left right other one two well is also in
    let back = instances_of other one two peak left right well also is in
    let both : AreMutual signature s peak other on.rest back.rest = record {
      there = on.peak;
      again = back.peak;
      one_sort = h;
      other_sort = k;
      one_numbered = numbered;
      other_numbered = numbered_too;
    } in
    let peaks : peak ≡ other = sym (term_stays both peak (λ n r o. o)) ∙ on.peak in
    let lefts : left ≡ one = sym (term_stays both left (λ n r o. step_occurs well n r (peak_left is) o)) ∙ on.left in
    let rights : right ≡ two = sym (term_stays both right (λ n r o. step_occurs well n r (peak_right is) o)) ∙ on.right in
    (λ i. pair_at first second path (peaks i) (lefts i) (rights i))

pub pairs_unique : (signature : Signature) (rules : List Rule) (one two : CriticalPair) (s : ℕ) → AreWellFormedRules rules
    → IsCriticalPair rules one → IsCriticalPair rules two → place_of_critical_pair one ≡ place_of_critical_pair two → IsNumbered one.peak
    → IsNumbered two.peak
    → HasSort signature one.peak s → HasSort signature two.peak s → one ≡ two
pairs_unique signature rules one two s well is also at numbered numbered_too h k =
    let moved : two ≡ pair_at one.first one.second one.path two.peak two.left two.right =
    ap (λ (p : PairPlace). pair_at p.first p.second p.path two.peak two.left two.right) (sym at) in
    unique_at signature s one.peak one.left one.right two.peak two.left two.right well is
    (subst (λ (p : CriticalPair). IsCriticalPair rules p) moved also) numbered numbered_too h k
    ∙ sym moved
