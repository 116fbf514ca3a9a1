-- The critical pairs of rules computed within a number of rounds, as going through the places gives them.
use Rattle.std.proofs.Common.{◌≡◌, ℕ, suc, List, [], ◌∷◌, ◌++◌, Bool, true, false, nat_eq, refl, sym, ◌∙◌, subst}
use Rattle.std.specs.Prelude.{Option, Some, None, not, ◌&&◌, if◌then◌else◌, slice_get}
use Rattle.std.specs.Option.{option_map, option_and_then}
use Rattle.std.proofs.lemmas.Option.{same_Some}
use Rattle.std.proofs.lemmas.Bool.Decides.{Decides-eqb}
use Rattle.std.proofs.lemmas.Bool.{and_parts}
use Rattle.lotos_base.specs.Term.{Term, variable, node, Terms, no_terms, term_then}
use Rattle.lotos_base.specs.Path.{subterm, put_at}
use Rattle.lotos_base.specs.Substitution.{Substitution, substituted, renaming}
use Rattle.rewriting_theory.specs.Rule.{Rule, IsNode}
use Rattle.rewriting_theory.specs.Unification.{OccursInEither}
use Rattle.rewriting_theory.specs.CriticalPair.{OverlapPlace, Overlaps, CriticalPair, IsCriticalPair}
use Rattle.rewriting_theory.specs.PairList.{PairPlace, place_of_critical_pair}
use Rattle.rewriting_theory.specs.PairListLaws.{renamed_pair}
use Rattle.rewriting_theory.specs.Places.{is_root, IsPairOf, IsApartAt, PairsOf, no_place, no_pair, one_pair}
use Rattle.rewriting_theory.proofs.OverlapLemmas.{combined, combination_unifies, subterm_occurs}
use Rattle.rewriting_theory.proofs.PairLemmas.{past, past_keeps, past_apart}
use Rattle.rewriting_theory.proofs.UnifyLemmas.{IsSolution, solution_general}
use Rattle.rewriting_theory.proofs.RenumberLemmas.{renamed_critical}
use Rattle.worked_cases.proofs.UnifyTests.{Unified, Means, unify_within, unify_means}
use Rattle.worked_cases.proofs.NumberingTests.{keeps_apart, keeps_apart_so, is_numbered, is_numbered_so}

-- ---- Numbers by first appearance

abbrev mutual
  -- the variables of the term with their sorts, from left to right
  variables_of : Term → List (ℕ × ℕ)
  variables_of (variable n s) = (n, s) ∷ []
  variables_of (node f ts) = all_variables_of ts

  all_variables_of : Terms → List (ℕ × ℕ)
  all_variables_of no_terms = []
  all_variables_of (term_then t ts) = variables_of t ++ all_variables_of ts

abbrev is_known : ℕ → ℕ → List (ℕ × ℕ) → Bool
is_known n s [] = false
is_known n s (v ∷ vs) = if nat_eq v.0 n && nat_eq v.1 s then true else is_known n s vs

-- the number of the variable: how many others were met before it
abbrev number_from : ℕ → List (ℕ × ℕ) → List (ℕ × ℕ) → ℕ → ℕ → ℕ
number_from next known [] n s = next
number_from next known (v ∷ vs) n s =
    if nat_eq v.0 n && nat_eq v.1 s
    then next
    else (if is_known v.0 v.1 known then number_from next known vs n s else number_from (suc next) (v ∷ known) vs n s)

abbrev by_appearance : Term → ℕ → ℕ → ℕ
by_appearance t n s = number_from 0 [] (variables_of t) n s

-- ---- The pair of a place

-- the second left side with its variables past those of the first one
abbrev moved : Rule → Term → Term
moved rule t = substituted (renaming (past rule.left)) t

-- the pair, before its variables are numbered
abbrev raw_pair : PairPlace → Rule → Rule → Substitution → Term → CriticalPair
raw_pair place first second values right = record {
  first = place.first;
  second = place.second;
  path = place.path;
  peak = substituted values first.left;
  left = substituted values first.right;
  right = right;
}

-- the pair with its variables numbered, if the numbers are right
abbrev numbered_pair : CriticalPair → Option CriticalPair
numbered_pair pair =
    if keeps_apart (by_appearance pair.peak) pair.peak && is_numbered (substituted (renaming (by_appearance pair.peak)) pair.peak)
    then Some (renamed_pair (by_appearance pair.peak) pair)
    else None

-- What comes of a place: nothing, no overlap, or a pair.
abbrev pair_by : PairPlace → Rule → Rule → Unified → Option (Option CriticalPair)
pair_by place first second None = None
pair_by place first second (Some None) = Some None
pair_by place first second (Some (Some values)) =
    option_map (λ pair. Some pair)
    (option_and_then (λ right. numbered_pair (raw_pair place first second values right))
    (put_at place.path (substituted values (moved first second.right)) (substituted values first.left)))

-- whether the part may be overlapped: it is no variable, and the place is not that of a rule with itself at the root
abbrev is_node : Term → Bool
is_node (variable n s) = false
is_node (node f ts) = true

abbrev is_allowed : PairPlace → Term → Bool
is_allowed place part = is_node part && not (nat_eq place.first place.second && is_root place.path)

abbrev pair_of_part : ℕ → PairPlace → Rule → Rule → Option Term → Option (Option CriticalPair)
pair_of_part k place first second None = None
pair_of_part k place first second (Some part) =
    if is_allowed place part then pair_by place first second (unify_within k part (moved first second.left)) else None

abbrev pair_of_rules : ℕ → PairPlace → Option Rule → Option Rule → Option (Option CriticalPair)
pair_of_rules k place None other = None
pair_of_rules k place (Some first) None = None
pair_of_rules k place (Some first) (Some second) = pair_of_part k place first second (subterm place.path first.left)

abbrev pair_within : ℕ → List Rule → PairPlace → Option (Option CriticalPair)
pair_within k rules place = pair_of_rules k place (slice_get rules place.first) (slice_get rules place.second)

-- the pairs of all places
abbrev added : Option (Option CriticalPair) → Option (List CriticalPair) → Option (List CriticalPair)
added None rest = None
added (Some None) rest = rest
added (Some (Some pair)) rest = option_map (λ pairs. pair ∷ pairs) rest

abbrev pub pairs_within : ℕ → List Rule → List PairPlace → Option (List CriticalPair)
pairs_within k rules [] = Some []
pairs_within k rules (place ∷ others) = added (pair_within k rules place) (pairs_within k rules others)

-- ---- What its answers mean

-- a place whose part has no unifier has no overlap
no_overlap : {rules : List Rule} {first second : ℕ} {path : List ℕ} (place : OverlapPlace rules first second path)
    → Means place.part (moved place.first_rule place.second_rule.left) (Some None) → ¬ Overlaps place
no_overlap {path = path} place none overlap =
    none
    (combined (past place.first_rule.left) place.second_rule.left overlap.values overlap.others)
    (combination_unifies
    (past place.first_rule.left) place.first_rule.left place.second_rule.left place.part overlap.values overlap.others
    (past_keeps place.first_rule.left place.second_rule.left)
    (past_apart place.first_rule.left place.second_rule.left)
    (λ n r o. subterm_occurs path place.first_rule.left place.part n r place.is_part o)
    overlap.same)

none_by_unifier : (place : PairPlace) (first second : Rule) (part : Term) (answer : Unified) → Means part (moved first second.left) answer
    → pair_by place first second answer ≡ Some None → Means part (moved first second.left) (Some None)
none_by_unifier place first second part None means h = cc
none_by_unifier place first second part (Some None) means h = means
none_by_unifier place first second part (Some (Some values)) means h =
    go (option_and_then (λ right. numbered_pair (raw_pair place first second values right))
    (put_at place.path (substituted values (moved first second.right)) (substituted values first.left))) h
  where
    go : (o : Option CriticalPair) → option_map (λ pair. Some pair) o ≡ Some None → Means part (moved first second.left) (Some None)
    go None e = cc
    go (Some pair) e = cc

none_by_test : (k : ℕ) (place : PairPlace) (first second : Rule) (part : Term) (b : Bool)
    → (if b then pair_by place first second (unify_within k part (moved first second.left)) else None) ≡ Some None
    → Means part (moved first second.left) (Some None)
none_by_test k place first second part true h =
    none_by_unifier place first second part (unify_within k part (moved first second.left))
    (unify_means k part (moved first second.left)) h
none_by_test k place first second part false h = cc

apart_found : (k : ℕ) (rules : List Rule) (place : PairPlace) → pair_within k rules place ≡ Some None → IsApartAt rules place
apart_found k rules place e = λ there.
    no_overlap there
    (none_by_test k place there.first_rule there.second_rule there.part (is_allowed place there.part)
    ((λ i. pair_of_part k place there.first_rule there.second_rule (sym there.is_part i))
    ∙ (λ i. pair_of_rules k place (sym there.is_first i) (sym there.is_second i))
    ∙ e))

-- what the tests of a part say
allowed_node : (place : PairPlace) (part : Term) → is_allowed place part ≡ true → IsNode part
allowed_node place (variable n s) e = cc
allowed_node place (node f ts) e = tt

allowed_root : (place : PairPlace) (part : Term) → is_allowed place part ≡ true → place.first ≡ place.second → ¬ (place.path ≡ [])
allowed_root place part e same root = go (nat_eq place.first place.second) ((Decides-eqb place.first place.second).1 same) place.path root
    (and_parts (is_node part) (not (nat_eq place.first place.second && is_root place.path)) e).1
  where
    go : (b : Bool) → b ≡ true → (path : List ℕ) → path ≡ [] → not (b && is_root path) ≡ true → ⊥
    go true is [] root h = cc
    go true is (j ∷ path) root h = cc
    go false is path root h = cc

-- a place whose part has a solution has its pair
raw_critical : (rules : List Rule) (place : PairPlace) (first second : Rule) (part : Term) (values : Substitution) (right : Term)
    → slice_get rules place.first ≡ Some first → slice_get rules place.second ≡ Some second → subterm place.path first.left ≡ Some part
    → is_allowed place part ≡ true → IsSolution part (moved first second.left) values
    → put_at place.path (substituted values (moved first second.right)) (substituted values first.left) ≡ Some right
    → IsCriticalPair rules (raw_pair place first second values right)
raw_critical rules place first second part values right e1 e2 e3 allowed solution e4 = record {
  place = record {
    first_rule = first;
    second_rule = second;
    part = part;
    is_first = e1;
    is_second = e2;
    is_part = e3;
    no_variable = allowed_node place part allowed;
    no_same_root = allowed_root place part allowed;
  };
  number = past first.left;
  keeps = past_keeps first.left second.left;
  apart = past_apart first.left second.left;
  values = values;
  general = solution_general (OccursInEither first.left (moved first second.left)) part (moved first second.left) values solution;
  is_peak = refl;
  is_left = refl;
  is_right = e4;
}

-- the numbered pair of a critical pair
numbered_found : (rules : List Rule) (place : PairPlace) (raw pair : CriticalPair) → IsCriticalPair rules raw
    → place_of_critical_pair raw ≡ place
    → numbered_pair raw ≡ Some pair → IsPairOf rules place pair
numbered_found rules place raw pair is at e =
    go (keeps_apart number raw.peak && is_numbered (substituted (renaming number) raw.peak)) refl e
  where
    number : ℕ → ℕ → ℕ
    number = by_appearance raw.peak

    go : (b : Bool) → (keeps_apart (by_appearance raw.peak) raw.peak && is_numbered
        (substituted (renaming (by_appearance raw.peak)) raw.peak)) ≡ b
        → (if b then Some (renamed_pair (by_appearance raw.peak) raw) else None) ≡ Some pair → IsPairOf rules place pair
    go true test h =
        let tests = and_parts (keeps_apart (by_appearance raw.peak) raw.peak)
        (is_numbered (substituted (renaming (by_appearance raw.peak)) raw.peak)) test in
        subst (λ (p : CriticalPair). IsPairOf rules place p) (same_Some (renamed_pair (by_appearance raw.peak) raw) pair h)
        (record {
          is_place = at;
          critical = renamed_critical raw (by_appearance raw.peak) is (keeps_apart_so (by_appearance raw.peak) raw.peak tests.0);
          numbered = is_numbered_so (substituted (renaming (by_appearance raw.peak)) raw.peak) tests.1;
        })
    go false test h = cc

-- an option that is mapped to a pair is that pair
mapped_pair : (o : Option CriticalPair) (pair : CriticalPair) → option_map (λ (p : CriticalPair). Some p) o ≡ Some (Some pair) → o
    ≡ Some pair
mapped_pair None pair e = cc
mapped_pair (Some p) pair e = same_Some (Some p) (Some pair) e

found_by_whole : (rules : List Rule) (place : PairPlace) (first second : Rule) (part : Term) (values : Substitution) (pair : CriticalPair)
    → slice_get rules place.first ≡ Some first → slice_get rules place.second ≡ Some second → subterm place.path first.left ≡ Some part
    → is_allowed place part ≡ true → IsSolution part (moved first second.left) values → (o : Option Term)
    → put_at place.path (substituted values (moved first second.right)) (substituted values first.left) ≡ o
    → option_and_then (λ right. numbered_pair (raw_pair place first second values right)) o ≡ Some pair
    → IsPairOf rules place pair
found_by_whole rules place first second part values pair e1 e2 e3 allowed solution None e4 h = cc
found_by_whole rules place first second part values pair e1 e2 e3 allowed solution (Some right) e4 h =
    numbered_found rules place (raw_pair place first second values right) pair
    (raw_critical rules place first second part values right e1 e2 e3 allowed solution e4) refl h

found_by_unifier : (rules : List Rule) (place : PairPlace) (first second : Rule) (part : Term) (pair : CriticalPair)
    → slice_get rules place.first ≡ Some first → slice_get rules place.second ≡ Some second → subterm place.path first.left ≡ Some part
    → is_allowed place part ≡ true → (answer : Unified) → Means part (moved first second.left) answer
    → pair_by place first second answer ≡ Some (Some pair) → IsPairOf rules place pair
found_by_unifier rules place first second part pair e1 e2 e3 allowed None means h = cc
found_by_unifier rules place first second part pair e1 e2 e3 allowed (Some None) means h = cc
found_by_unifier rules place first second part pair e1 e2 e3 allowed (Some (Some values)) means h =
    found_by_whole rules place first second part values pair e1 e2 e3 allowed means
    (put_at place.path (substituted values (moved first second.right)) (substituted values first.left)) refl
    (mapped_pair
    (option_and_then (λ right. numbered_pair (raw_pair place first second values right))
    (put_at place.path (substituted values (moved first second.right)) (substituted values first.left))) pair h)

found_by_test : (k : ℕ) (rules : List Rule) (place : PairPlace) (first second : Rule) (part : Term) (pair : CriticalPair)
    → slice_get rules place.first ≡ Some first → slice_get rules place.second ≡ Some second → subterm place.path first.left ≡ Some part
    → (b : Bool) → is_allowed place part ≡ b
    → (if b then pair_by place first second (unify_within k part (moved first second.left)) else None) ≡ Some (Some pair)
    → IsPairOf rules place pair
found_by_test k rules place first second part pair e1 e2 e3 true allowed h =
    found_by_unifier rules place first second part pair e1 e2 e3 allowed (unify_within k part (moved first second.left))
    (unify_means k part (moved first second.left)) h
found_by_test k rules place first second part pair e1 e2 e3 false allowed h = cc

found_by_part : (k : ℕ) (rules : List Rule) (place : PairPlace) (first second : Rule) (pair : CriticalPair)
    → slice_get rules place.first ≡ Some first → slice_get rules place.second ≡ Some second → (o : Option Term)
    → subterm place.path first.left ≡ o → pair_of_part k place first second o ≡ Some (Some pair) → IsPairOf rules place pair
found_by_part k rules place first second pair e1 e2 None e3 h = cc
found_by_part k rules place first second pair e1 e2 (Some part) e3 h =
    found_by_test k rules place first second part pair e1 e2 e3 (is_allowed place part) refl h

found_by_rules : (k : ℕ) (rules : List Rule) (place : PairPlace) (pair : CriticalPair) (one two : Option Rule)
    → slice_get rules place.first ≡ one → slice_get rules place.second ≡ two → pair_of_rules k place one two ≡ Some (Some pair)
    → IsPairOf rules place pair
found_by_rules k rules place pair None two e1 e2 h = cc
found_by_rules k rules place pair (Some first) None e1 e2 h = cc
found_by_rules k rules place pair (Some first) (Some second) e1 e2 h =
    found_by_part k rules place first second pair e1 e2 (subterm place.path first.left) refl h

pair_found : (k : ℕ) (rules : List Rule) (place : PairPlace) (pair : CriticalPair) → pair_within k rules place ≡ Some (Some pair)
    → IsPairOf rules place pair
pair_found k rules place pair e =
    found_by_rules k rules place pair (slice_get rules place.first) (slice_get rules place.second) refl refl e

-- the pairs that are found are those of the places
pub pairs_found : (k : ℕ) (rules : List Rule) (list : List PairPlace) (pairs : List CriticalPair) → pairs_within k rules list ≡ Some pairs
    → PairsOf rules list pairs
pairs_found k rules [] pairs e = subst (λ (ps : List CriticalPair). PairsOf rules [] ps) (same_Some [] pairs e) no_place
pairs_found k rules (place ∷ others) pairs e = go (pair_within k rules place) refl e (pairs_found k rules others)
  where
    added_one : (pair : CriticalPair) → pair_within k rules place ≡ Some (Some pair) → (o : Option (List CriticalPair))
        → pairs_within k rules others ≡ o → option_map (λ ps. pair ∷ ps) o ≡ Some pairs
        → ((ps : List CriticalPair) → pairs_within k rules others ≡ Some ps → PairsOf rules others ps)
        → PairsOf rules (place ∷ others) pairs
    added_one pair is None eo h rest = cc
    added_one pair is (Some ps) eo h rest =
        subst (λ (qs : List CriticalPair). PairsOf rules (place ∷ others) qs) (same_Some (pair ∷ ps) pairs h)
        (one_pair (pair_found k rules place pair is) (rest ps eo))

    go : (o : Option (Option CriticalPair)) → pair_within k rules place ≡ o → added o (pairs_within k rules others) ≡ Some pairs
        → ((ps : List CriticalPair) → pairs_within k rules others ≡ Some ps → PairsOf rules others ps)
        → PairsOf rules (place ∷ others) pairs
    go None is h rest = cc
    go (Some None) is h rest = no_pair (apart_found k rules place is) (rest pairs h)
    go (Some (Some pair)) is h rest = added_one pair is (pairs_within k rules others) refl h rest
