-- Terms with values put for their variables, from left to right.
use Rattle.std.proofs.Common.{◌≡◌, ℕ, ◌+◌, List, [], ◌∷◌, ◌++◌, map, length, get_or, drop, take, ◌<◌, ap, sym, ◌∙◌, append_assoc, append-nil}
use Rattle.std.proofs.lemmas.List.{map-append}
use Rattle.sort_terms.specs.ProfiledTerm.{ProfiledTerm}
use Rattle.sort_terms.specs.TermView.{profiled_of, all_profiled}
use Rattle.sort_terms.specs.declared.terms.Term.{Term}
use Rattle.term_match.specs.ProfiledInstance.{ProfiledSubstitution, profiled_binding, profiled_instance, profiled_instances}
use Rattle.term_match.proofs.InstanceLemmas.{instances_more}
use Rattle.term_rewriter.specs.Taken.{owned_pairs, AreTaken, IsRewritten}
use Rattle.term_rewriter.specs.Wanted.{profiled_variables_of, all_profiled_variables_of, value_by, values_by, IsFilled, AreFilled}

-- ---- the terms one after the other

-- The terms so far are made, and the values are left that the other ones want.
abbrev pub AreFilledSoFar : List Term → List ProfiledTerm → List Term → List Term → List Term → List ProfiledTerm → Type 0
AreFilledSoFar terms before done later made now = (values : ProfiledSubstitution) (rest : List ProfiledTerm)
    → before ≡ values_by values (all_profiled_variables_of (all_profiled terms)) ++ rest
    → (all_profiled made ≡ profiled_instances values (all_profiled done))
    × (now ≡ values_by values (all_profiled_variables_of (all_profiled later)) ++ rest)

pub one_filled : (terms made new : List Term) (i : ℕ) (x y : Term) (before now more : List ProfiledTerm) → i < length terms
    → x ≡ get_or terms i x → drop i terms ≡ x ∷ drop (i + 1) terms → new ≡ made ++ y ∷ []
    → AreFilledSoFar terms before (take i terms) (drop i terms) made now → IsFilled (profiled_of x) now more (profiled_of y)
    → AreFilledSoFar terms before (take (i + 1) terms) (drop (i + 1) terms) new more
one_filled terms made new i x y before now more within is later_is added so_far one values rest e =
    let done = so_far values rest e in
    let after = values_by values (all_profiled_variables_of (all_profiled (drop (i + 1) terms))) in
    let wanted : now ≡ values_by values (profiled_variables_of (profiled_of x)) ++ (after ++ rest) =
    done.1
    ∙ ap (λ (ts : List Term). values_by values (all_profiled_variables_of (all_profiled ts)) ++ rest) later_is
    ∙ ap (λ (us : List ProfiledTerm). us ++ rest)
    (map-append (value_by values) (profiled_variables_of (profiled_of x)) (all_profiled_variables_of (all_profiled (drop (i + 1) terms))))
    ∙ append_assoc (values_by values (profiled_variables_of (profiled_of x))) after rest in
    let here = one values (after ++ rest) wanted in
    (instances_more values terms made new i x y within is added done.0 here.0, here.1)

pub all_filled : (terms made : List Term) (done later : List Term) (before now : List ProfiledTerm) → done ≡ terms → later ≡ []
    → AreFilledSoFar terms before done later made now → AreFilled (all_profiled terms) before now (all_profiled made)
all_filled terms made done later before now whole none so_far values rest e =
    let there = so_far values rest e in (
      there.0 ∙ ap (λ (ts : List Term). profiled_instances values (all_profiled ts)) whole,
      there.1 ∙ ap (λ (ts : List Term). values_by values (all_profiled_variables_of (all_profiled ts)) ++ rest) none,
    )

-- ---- the whole

pub is_rewritten : (left right t made : ProfiledTerm) (values : List (ℕ × Term)) (wanted : List (ℕ × ℕ)) (terms : List Term)
    (after : List ProfiledTerm) → AreTaken left t [] (owned_pairs values) → wanted ≡ profiled_variables_of right
    → map profiled_of terms ≡ values_by (profiled_binding (owned_pairs values)) wanted
    → IsFilled right (map profiled_of terms) after made → IsRewritten left right t made
is_rewritten left right t made values wanted terms after taken wanted_is terms_are filled found e =
    let there = filled (profiled_binding (owned_pairs values)) []
    (terms_are ∙ ap (λ (vs : List (ℕ × ℕ)). values_by (profiled_binding (owned_pairs values)) vs) wanted_is ∙ sym (append-nil _)) in
    there.0 ∙ ap (λ (pairs : List (ℕ × ProfiledTerm)). profiled_instance (profiled_binding pairs) right) (taken found e)
