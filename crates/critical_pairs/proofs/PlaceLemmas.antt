-- Two rules over one signature, and the second one moved apart from the first one.
use Rattle.std.proofs.Common.{◌≡◌, ℕ, zero, suc, List, [], ◌∷◌, true, refl, ap, sym, ◌∙◌, subst, inl, inr}
use Rattle.std.specs.Prelude.{◌⊎◌, Some, None, Option, slice_get}
use Rattle.std.specs.Option.{option_map, option_and_then}
use Rattle.std.proofs.lemmas.Option.{same_Some}
use Rattle.lotos_base.specs.Signature.{Signature, Operation}
use Rattle.lotos_base.specs.Term.{Term}
use Rattle.lotos_base.specs.Sorting.{Occurs}
use Rattle.lotos_base.specs.Path.{subterm}
use Rattle.lotos_base.specs.Substitution.{Substitution, substituted, renaming}
use Rattle.lotos_base.proofs.PathLemmas.{put_at_possible}
use Rattle.lotos_base.proofs.SubstitutionLemmas.{substituted_occurs, occurs_substituted}
use Rattle.rewriting_theory.specs.Rule.{Rule, IsRuleAt, IsNode}
use Rattle.rewriting_theory.specs.Unification.{IsUnifier, OccursInEither, AreApart}
use Rattle.rewriting_theory.specs.Places.{IsApartAt}
use Rattle.rewriting_theory.proofs.OverlapLemmas.{subterm_occurs, combined, combination_unifies}
use Rattle.sort_terms.specs.ProfiledTerm.{ProfiledTerm, ProfiledTerms, profiled_variable, profiled_node, no_profiled_terms, profiled_term_then, bare, head_sort, IsOf}
use Rattle.term_match.specs.Disagreement.{clashes}
use Rattle.term_match.proofs.AgreeLemmas.{clashing_apart}
use Rattle.term_match.specs.Matched.{IsPair}
use Rattle.term_match.specs.ProfiledInstance.{ProfiledSubstitution, profiled_instance, profiled_instances, profiled_binding}
use Rattle.term_match.specs.ProfiledPath.{profiled_subterm, profiled_argument_at, profiled_put_at, with_part_replaced}
use Rattle.term_match.proofs.PathLemmas.{subterm_bare, subterm_of, put_bare, replaced_at}
use Rattle.term_match.proofs.InstanceLemmas.{instance_of}
use Rattle.term_match.specs.Renumbering.{profiled_renaming}
use Rattle.term_match.specs.NewNumbers.{KeepsClear}
use Rattle.term_match.proofs.NumberLemmas.{renumbered_plain}
use Rattle.term_match.specs.Unified.{HaveOneSortPerNumber, HasUnifier, IsUnifiedBy}
use Rattle.term_match.proofs.StateLemmas.{Pairs, binding_either, instance_head, occurs_sort_of}
use Rattle.path_order.specs.RuleSides.{Sides}
use Rattle.critical_pairs.specs.OverlapPair.{HaveNoOverlap}
use Rattle.critical_pairs.specs.TwoSides.{bare_rule, IsFormedRuleOver}

-- the term with its variables renamed
abbrev pub moved : (ℕ → ℕ → ℕ) → ProfiledTerm → ProfiledTerm
moved number t = profiled_instance (profiled_renaming number) t

-- What the call has found before it unifies.
pub record IsPlace (signature : Signature) (first second : Sides) (path : List ℕ) (part : ProfiledTerm) (number : ℕ → ℕ → ℕ)
    : Type 0 where
  pub first_over : IsFormedRuleOver signature first
  pub second_over : IsFormedRuleOver signature second
  pub is_part : profiled_subterm path first.left ≡ Some part
  pub clear : KeepsClear number (bare first.left) (bare second.left)

-- ---- Variables and sorts

-- a variable of a moved term
pub record IsMoved (number : ℕ → ℕ → ℕ) (t : ProfiledTerm) (n s : ℕ) : Type 0 where
  pub before : ℕ
  pub occurs : Occurs before s (bare t)
  pub is_number : number before s ≡ n

pub moved_occurs : (number : ℕ → ℕ → ℕ) (t : ProfiledTerm) (n s : ℕ) → Occurs n s (bare (moved number t)) → IsMoved number t n s
moved_occurs number t n s o =
    let from = substituted_occurs n s (renaming number) (bare t) (subst (λ (w : Term). Occurs n s w) (renumbered_plain number t) o) in
    record {
      before = from.number;
      occurs = subst (λ (r : ℕ). Occurs from.number r (bare t)) from.inside.1 from.occurs;
      is_number = ap (number from.number) (sym from.inside.1) ∙ from.inside.0;
    }

pub occurs_moved : (number : ℕ → ℕ → ℕ) (t : ProfiledTerm) (n s : ℕ) → Occurs n s (bare t) → Occurs (number n s) s (bare (moved number t))
occurs_moved number t n s o =
    subst (λ (w : Term). Occurs (number n s) s w) (sym (renumbered_plain number t))
    (occurs_substituted (number n s) s n s (renaming number) (bare t) o (refl, refl))

-- the part's variables are those of the left side
pub part_bare : (path : List ℕ) (t part : ProfiledTerm) → profiled_subterm path t ≡ Some part → subterm path (bare t) ≡ Some (bare part)
part_bare path t part e = sym (subterm_bare path t) ∙ ap (option_map bare) e

pub part_occurs : {signature : Signature} {first second : Sides} {path : List ℕ} {part : ProfiledTerm} {number : ℕ → ℕ → ℕ}
    → IsPlace signature first second path part number → (n s : ℕ) → Occurs n s (bare part) → Occurs n s (bare first.left)
part_occurs {first = first} {path = path} {part = part} is n s o =
    subterm_occurs path (bare first.left) (bare part) n s (part_bare path first.left part is.is_part) o

-- over the first left side and the moved second one a number has one sort
pub one_sort_both : {signature : Signature} {first second : Sides} {path : List ℕ} {part : ProfiledTerm} {number : ℕ → ℕ → ℕ}
    → IsPlace signature first second path part number
    → HaveOneSortPerNumber (bare first.left) (bare (moved number second.left))
one_sort_both {first = first} {second = second} {number = number} is n r q one two = go one two
  where
    across : (a b : ℕ) → Occurs n a (bare first.left) → Occurs n b (bare (moved number second.left)) → ⊥
    across a b o p =
        let from = moved_occurs number second.left n b p in
        is.clear.clear from.before b a from.occurs (subst (λ (k : ℕ). Occurs k a (bare first.left)) (sym from.is_number) o)

    go : OccursInEither (bare first.left) (bare (moved number second.left)) n r
        → OccursInEither (bare first.left) (bare (moved number second.left)) n q → r ≡ q
    go (inl o) (inl p) = is.first_over.numbers n r q o p
    go (inl o) (inr p) = absurd (across r q o p)
    go (inr o) (inl p) = absurd (across q r p o)
    go (inr o) (inr p) =
        let one = moved_occurs number second.left n r o in
        let two = moved_occurs number second.left n q p in
        let same : one.before ≡ two.before =
        is.clear.tells_apart one.before r two.before q one.occurs two.occurs (one.is_number ∙ sym two.is_number) in
        is.second_over.numbers two.before r q (subst (λ (k : ℕ). Occurs k r (bare second.left)) same one.occurs) two.occurs

pub wider : {signature : Signature} {first second : Sides} {path : List ℕ} {part : ProfiledTerm} {number : ℕ → ℕ → ℕ}
    → IsPlace signature first second path part number → (n s : ℕ)
    → OccursInEither (bare part) (bare (moved number second.left)) n s
    → OccursInEither (bare first.left) (bare (moved number second.left)) n s
wider is n s (inl o) = inl (part_occurs is n s o)
wider is n s (inr o) = inr o

pub one_sort_unified : {signature : Signature} {first second : Sides} {path : List ℕ} {part : ProfiledTerm} {number : ℕ → ℕ → ℕ}
    → IsPlace signature first second path part number → HaveOneSortPerNumber (bare part) (bare (moved number second.left))
one_sort_unified is n r q o p = one_sort_both is n r q (wider is n r o) (wider is n q p)

-- what unifies puts terms of a variable's sort
pub put_sorted : {signature : Signature} {first second : Sides} {path : List ℕ} {part : ProfiledTerm} {number : ℕ → ℕ → ℕ}
    → IsPlace signature first second path part number → (pairs : Pairs) → IsUnifiedBy part (moved number second.left) pairs → (n s : ℕ)
    → OccursInEither (bare first.left) (bare (moved number second.left)) n s → head_sort (profiled_binding pairs n s) ≡ s
put_sorted {first = first} {second = second} {part = part} {number = number} is pairs unified n s o = go (binding_either pairs n s)
  where
    go : ((u : ProfiledTerm) × IsPair pairs n u × (profiled_binding pairs n s ≡ u)) ⊎ (profiled_binding pairs n s ≡ profiled_variable n s)
        → head_sort (profiled_binding pairs n s) ≡ s
    go (inl (u, at, value)) =
        ap head_sort value ∙ one_sort_both is n (head_sort u) s (wider is n (head_sort u) (unified.sorts n u at)) o
    go (inr value) = ap head_sort value

pub put_sorted_right : {signature : Signature} {first second : Sides} {path : List ℕ} {part : ProfiledTerm} {number : ℕ → ℕ → ℕ}
    → IsPlace signature first second path part number → (pairs : Pairs) → IsUnifiedBy part (moved number second.left) pairs → (n s : ℕ)
    → Occurs n s (bare first.right) → head_sort (profiled_binding pairs n s) ≡ s
put_sorted_right is pairs unified n s o = put_sorted is pairs unified n s (inl (is.first_over.well_formed.occurring n s o))

pub moved_right_occurs : {signature : Signature} {first second : Sides} {path : List ℕ} {part : ProfiledTerm} {number : ℕ → ℕ → ℕ}
    → IsPlace signature first second path part number → (n s : ℕ) → Occurs n s (bare (moved number second.right))
    → Occurs n s (bare (moved number second.left))
moved_right_occurs {second = second} {number = number} is n s o =
    let from = moved_occurs number second.right n s o in
    subst (λ (k : ℕ). Occurs k s (bare (moved number second.left))) from.is_number
    (occurs_moved number second.left from.before s (is.second_over.well_formed.occurring from.before s from.occurs))

pub put_sorted_second : {signature : Signature} {first second : Sides} {path : List ℕ} {part : ProfiledTerm} {number : ℕ → ℕ → ℕ}
    → IsPlace signature first second path part number → (pairs : Pairs) → IsUnifiedBy part (moved number second.left) pairs → (n s : ℕ)
    → Occurs n s (bare (moved number second.right)) → head_sort (profiled_binding pairs n s) ≡ s
put_sorted_second is pairs unified n s o = put_sorted is pairs unified n s (inr (moved_right_occurs is n s o))

pub moved_sort : (number : ℕ → ℕ → ℕ) (t : ProfiledTerm) → head_sort (moved number t) ≡ head_sort t
moved_sort number t = instance_head (profiled_renaming number) t (λ n s o. refl)

-- ---- The part of an instance

argument_instance : (k : ℕ) (values : ProfiledSubstitution) (ts : ProfiledTerms)
    → profiled_argument_at k (profiled_instances values ts) ≡ option_map (profiled_instance values) (profiled_argument_at k ts)
argument_instance k values no_profiled_terms = refl
argument_instance zero values (profiled_term_then t ts) = refl
argument_instance (suc k) values (profiled_term_then t ts) = argument_instance k values ts

pub subterm_instance : (path : List ℕ) (values : ProfiledSubstitution) (t part : ProfiledTerm) → profiled_subterm path t ≡ Some part
    → profiled_subterm path (profiled_instance values t) ≡ Some (profiled_instance values part)
subterm_instance [] values t part e = ap (λ (w : ProfiledTerm). Some (profiled_instance values w)) (same_Some t part e)
subterm_instance (k ∷ path) values (profiled_variable n s) part e = let none : None ≡ Some part = e in cc
subterm_instance (k ∷ path) values (profiled_node f operation ts) part e =
    ap (λ (o : Option ProfiledTerm). option_and_then (λ w. profiled_subterm path w) o) (argument_instance k values ts)
    ∙ go (profiled_argument_at k ts) e (λ w h. subterm_instance path values w part h)
  where
    go : (o : Option ProfiledTerm) → option_and_then (λ w. profiled_subterm path w) o ≡ Some part
        → ((w : ProfiledTerm) → profiled_subterm path w ≡ Some part
        → profiled_subterm path (profiled_instance values w) ≡ Some (profiled_instance values part))
        → option_and_then (λ w. profiled_subterm path w) (option_map (profiled_instance values) o) ≡ Some (profiled_instance values part)
    go None h rest = let none : None ≡ Some part = h in cc
    go (Some w) h rest = rest w h

-- the part of the peak has the sort of the second rule's right side there
pub part_replaced : {signature : Signature} {first second : Sides} {path : List ℕ} {part : ProfiledTerm} {number : ℕ → ℕ → ℕ}
    → IsPlace signature first second path part number → (pairs : Pairs) → IsUnifiedBy part (moved number second.left) pairs
    → (old : ProfiledTerm) × (profiled_subterm path (profiled_instance (profiled_binding pairs) first.left) ≡ Some old)
    × (head_sort old ≡ head_sort (moved number second.right))
part_replaced {first = first} {second = second} {path = path} {part = part} {number = number} is pairs unified = (
  profiled_instance (profiled_binding pairs) part,
  subterm_instance path (profiled_binding pairs) first.left part is.is_part,
  instance_head (profiled_binding pairs) part (λ n s o. put_sorted is pairs unified n s (inl (part_occurs is n s o)))
      ∙ unified.one_sort ∙ moved_sort number second.left ∙ is.second_over.one_sort ∙ sym (moved_sort number second.right),
)

-- ---- Where nothing unifies

-- two operations that unify over one signature have one sort
node_sorts : (signature : Signature) (t u : ProfiledTerm) (values : Substitution) → IsOf signature t → IsOf signature u
    → IsNode (bare t) → IsNode (bare u) → substituted values (bare t) ≡ substituted values (bare u) → head_sort t ≡ head_sort u
node_sorts signature (profiled_variable n s) u values one two a b same = absurd a
node_sorts signature (profiled_node f operation ts) (profiled_variable n s) values one two a b same = absurd b
node_sorts signature (profiled_node f operation ts) (profiled_node g other us) values one two a b same =
    let heads : f ≡ g = cc in
    ap (λ (o : Operation). o.result)
    (same_Some operation other
    (subst (λ (k : ℕ). Some operation ≡ slice_get signature.operations k) heads (sym one.0) ∙ two.0))

node_moved : (number : ℕ → ℕ → ℕ) (t : ProfiledTerm) → IsNode (bare t) → IsNode (bare (moved number t))
node_moved number (profiled_variable n s) is = is
node_moved number (profiled_node f operation ts) is = tt

pub moved_of : (signature : Signature) (number : ℕ → ℕ → ℕ) (t : ProfiledTerm) → IsOf signature t → IsOf signature (moved number t)
moved_of signature number t h =
    instance_of signature (profiled_renaming number) t h
    (λ n s o. occurs_sort_of signature t n s h o)

pub nothing_unifies : {signature : Signature} {first second : Sides} {path : List ℕ} {part : ProfiledTerm} {number : ℕ → ℕ → ℕ}
    → IsPlace signature first second path part number → IsNode (bare part)
    → (HasUnifier part (moved number second.left) → ⊥) → (rules : List Rule) (i j : ℕ)
    → IsRuleAt rules i (bare_rule first) → IsRuleAt rules j (bare_rule second)
    → IsApartAt rules (record { first = i; second = j; path = path })
nothing_unifies {signature = signature} {first = first} {second = second} {path = path} {part = part} {number = number} is is_node none
    rules i j is_first is_second there overlaps =
    let firsts : there.first_rule ≡ bare_rule first = same_Some there.first_rule (bare_rule first) (sym there.is_first ∙ is_first) in
    let seconds : there.second_rule ≡ bare_rule second = same_Some there.second_rule (bare_rule second) (sym there.is_second ∙ is_second) in
    let parts : there.part ≡ bare part =
    same_Some there.part (bare part)
    (sym there.is_part ∙ ap (λ (r : Rule). subterm path r.left) firsts ∙ part_bare path first.left part is.is_part) in
    let same : substituted overlaps.values (bare part) ≡ substituted overlaps.others (bare second.left) =
    ap (substituted overlaps.values) (sym parts) ∙ overlaps.same ∙ ap (λ (r : Rule). substituted overlaps.others r.left) seconds in
    let unifies : IsUnifier (bare part) (substituted (renaming number) (bare second.left))
    (combined number (bare second.left) overlaps.values overlaps.others) =
    combination_unifies number (bare first.left) (bare second.left) (bare part) overlaps.values overlaps.others
    (λ n m s o p e. is.clear.tells_apart n s m s o p e) apart (λ n r o. part_occurs is n r o) same in
    let moved_unifies : substituted (combined number (bare second.left) overlaps.values overlaps.others) (bare part)
    ≡ substituted (combined number (bare second.left) overlaps.values overlaps.others) (bare (moved number second.left)) =
    unifies ∙ ap (substituted (combined number (bare second.left) overlaps.values overlaps.others))
    (sym (renumbered_plain number second.left)) in
    none (
      node_sorts signature part (moved number second.left) (combined number (bare second.left) overlaps.values overlaps.others)
          (subterm_of signature path first.left part is.first_over.left_is_of is.is_part)
          (moved_of signature number second.left is.second_over.left_is_of) is_node
          (node_moved number second.left is.second_over.well_formed.left_node) moved_unifies,
      (combined number (bare second.left) overlaps.values overlaps.others, moved_unifies),
    )
  where
    apart : AreApart (bare first.left) (substituted (renaming number) (bare second.left))
    apart n r o p =
        let from = substituted_occurs n r (renaming number) (bare second.left) p in
        is.clear.clear from.number from.sort r from.occurs
        (subst (λ (k : ℕ). Occurs k r (bare first.left)) (sym from.inside.0) o)

-- ---- What is put where the sorts agree

pub put_there : (path : List ℕ) (part t old : ProfiledTerm) → profiled_subterm path t ≡ Some old → head_sort old ≡ head_sort part
    → with_part_replaced path part t ≡ None → ⊥
put_there path part t old found same none =
    let whole = put_at_possible path (bare part) (bare t) (bare old) (part_bare path t old found) in
    let nothing : profiled_put_at path part t ≡ None = replaced_at path part t old found same ∙ none in
    let clash : None ≡ Some whole.0 = ap (option_map bare) (sym nothing) ∙ put_bare path part t ∙ whole.1 in
    cc

-- ---- Where operations clash

-- the left sides do not overlap at a place where operations clash
pub clash_apart : (first second : Sides) (path : List ℕ) (part : ProfiledTerm) → profiled_subterm path first.left ≡ Some part
    → clashes part second.left ≡ true → HaveNoOverlap first second path
clash_apart first second path part is_part clash rules i j is_first is_second there overlaps =
    let firsts : there.first_rule ≡ bare_rule first = same_Some there.first_rule (bare_rule first) (sym there.is_first ∙ is_first) in
    let seconds : there.second_rule ≡ bare_rule second = same_Some there.second_rule (bare_rule second) (sym there.is_second ∙ is_second) in
    let parts : there.part ≡ bare part =
    same_Some there.part (bare part)
    (sym there.is_part ∙ ap (λ (r : Rule). subterm path r.left) firsts ∙ sym (subterm_bare path first.left)
    ∙ ap (λ (o : Option ProfiledTerm). option_map bare o) is_part) in
    clashing_apart overlaps.values overlaps.others part second.left clash
    (ap (substituted overlaps.values) (sym parts) ∙ overlaps.same ∙ ap (λ (r : Rule). substituted overlaps.others r.left) seconds)
