use Rattle.std.proofs.Common.{◌≡◌, ℕ, List, ap, sym, ◌∙◌, subst, inl}
use Rattle.std.specs.Prelude.{Option, Some, IfSome}
use Rattle.std.specs.Option.{option_map}
use Rattle.rewriting_theory.specs.Rule.{IsNode}
use Rattle.sort_terms.specs.ProfiledTerm.{ProfiledTerm, bare, IsOf}
use Rattle.sort_terms.specs.SortedView.{profiled_in, term_in}
use Rattle.sort_terms.specs.TermView.{term_of}
use Rattle.sort_terms.specs.declared.sorted.Sorted.{Sorted}
use Rattle.sort_terms.specs.declared.terms.Term.{Term}
use Rattle.sort_terms.proofs.BuiltLists.{profiled_Node}
use Rattle.term_match.specs.ProfiledInstance.{profiled_instance, profiled_binding}
use Rattle.term_match.specs.ProfiledPath.{profiled_subterm, profiled_put_at}
use Rattle.term_match.specs.SubstView.{profiled_pairs}
use Rattle.term_match.specs.declared.substitutions.Subst.{Subst}
use Rattle.term_match.proofs.PathLemmas.{subterm_of}
use Rattle.term_match.specs.NewNumbers.{KeepsClear}
use Rattle.term_match.specs.Renumbering.{new_number, profiled_renaming}
use Rattle.term_match.specs.Solving.{IsPutSorted}
use Rattle.term_match.specs.Unified.{HaveOneSortPerNumber, HasUnifier, IsUnifiedBy}
use Rattle.path_order.specs.RuleSides.{sides_of}
use Rattle.critical_pairs.specs.Contracted.{IsReplacedAt}
use Rattle.critical_pairs.specs.PairView.{overlap_of}
use Rattle.critical_pairs.proofs.PlaceLemmas.{moved, IsPlace, one_sort_unified, put_sorted, put_sorted_right, put_sorted_second, part_replaced, nothing_unifies, moved_of}
use Rattle.critical_pairs.proofs.PairLemmas.{IsContracted, makes_pair, pair_of_signature}
use Rattle.critical_pairs.proofs.overlapping.overlap.Goals as goal

pub unify-requires : goal.unify-requires
unify-requires c =
    let is_part : profiled_subterm c.args.path.now (profiled_in c.args.first.now.left) ≡ Some (profiled_in c.in-Some.part) =
    sym (ap (λ (o : Option Sorted). option_map profiled_in o) (sym c.in-Some.is) ∙ c.in_ok-part.ensures.profiles) in
    let clear : KeepsClear (new_number c.in_ok-numbers.numbers.items) (term_in c.args.first.now.left)
    (term_in c.args.second.now.left) =
    subst (λ (t : Term). KeepsClear (new_number c.in_ok-numbers.numbers.items) (term_of t) (term_in c.args.second.now.left))
    c.term-2.ensures
    (subst (λ (t : Term). KeepsClear (new_number c.in_ok-numbers.numbers.items) (term_of c.term-2.result.now) (term_of t)) c.term-3.ensures
    c.in_ok-numbers.ensures) in
    let place : IsPlace c.requires.0 (sides_of c.args.first.now) (sides_of c.args.second.now) c.args.path.now
    (profiled_in c.in-Some.part)
    (new_number c.in_ok-numbers.numbers.items) =
    record { first_over = c.requires.1; second_over = c.requires.2; is_part = is_part; clear = clear } in
    let is_left : profiled_in c.in_ok-second_left.second_left
    ≡ moved (new_number c.in_ok-numbers.numbers.items) (profiled_in c.args.second.now.left) =
    c.in_ok-second_left.ensures.profiles
    ∙ ap (λ (ns : List (ℕ × ℕ)). profiled_instance (profiled_renaming (new_number ns)) (profiled_in c.args.second.now.left))
    c.as_slice.ensures.value in
    record {
      one_sort = subst (λ (w : ProfiledTerm). HaveOneSortPerNumber (term_in c.in-Some.part) (bare w)) (sym is_left)
          (one_sort_unified place);
    }

pub returns-in_default-2-clause-none : goal.returns-in_default-2-clause-none
returns-in_default-2-clause-none c =
    let is_part : profiled_subterm c.args.path.now (profiled_in c.args.first.now.left) ≡ Some (profiled_in c.in-Some.part) =
    sym (ap (λ (o : Option Sorted). option_map profiled_in o) (sym c.in-Some.is) ∙ c.in_ok-part.ensures.profiles) in
    let clear : KeepsClear (new_number c.in_ok-numbers.numbers.items) (term_in c.args.first.now.left)
    (term_in c.args.second.now.left) =
    subst (λ (t : Term). KeepsClear (new_number c.in_ok-numbers.numbers.items) (term_of t) (term_in c.args.second.now.left))
    c.term-2.ensures
    (subst (λ (t : Term). KeepsClear (new_number c.in_ok-numbers.numbers.items) (term_of c.term-2.result.now) (term_of t)) c.term-3.ensures
    c.in_ok-numbers.ensures) in
    let place : IsPlace c.requires.0 (sides_of c.args.first.now) (sides_of c.args.second.now) c.args.path.now
    (profiled_in c.in-Some.part)
    (new_number c.in_ok-numbers.numbers.items) =
    record { first_over = c.requires.1; second_over = c.requires.2; is_part = is_part; clear = clear } in
    let is_left : profiled_in c.in_ok-second_left.second_left
    ≡ moved (new_number c.in_ok-numbers.numbers.items) (profiled_in c.args.second.now.left) =
    c.in_ok-second_left.ensures.profiles
    ∙ ap (λ (ns : List (ℕ × ℕ)). profiled_instance (profiled_renaming (new_number ns)) (profiled_in c.args.second.now.left))
    c.as_slice.ensures.value in
    let is_node : IsNode (term_in c.in-Some.part) =
    subst (λ (t : Term). IsNode (term_of t)) c.term.ensures
    (subst (λ (t : Term). IsNode (term_of t)) (sym c.in_default-term.is)
    (subst (λ (p : ProfiledTerm). IsNode (bare p))
    (sym (profiled_Node c.in_default-term.field-0 c.in_default-term.field-1 c.in_default-term.field-2)) tt)) in
    nothing_unifies place is_node (λ unifier.
    (c.in_ok-subst.ensures.none c.requires.0
    (subterm_of c.requires.0 c.args.path.now (profiled_in c.args.first.now.left) (profiled_in c.in-Some.part) c.requires.1.left_is_of
    is_part)
    (subst (λ (w : ProfiledTerm). IsOf c.requires.0 w) (sym is_left)
    (moved_of c.requires.0 (new_number c.in_ok-numbers.numbers.items) (profiled_in c.args.second.now.left) c.requires.2.left_is_of))).0
    c.in_default-2.is (subst (λ (w : ProfiledTerm). HasUnifier (profiled_in c.in-Some.part) w) (sym is_left) unifier))

pub contracted-requires-clause-left : goal.contracted-requires-clause-left
contracted-requires-clause-left c =
    let is_part : profiled_subterm c.args.path.now (profiled_in c.args.first.now.left) ≡ Some (profiled_in c.in-Some.part) =
    sym (ap (λ (o : Option Sorted). option_map profiled_in o) (sym c.in-Some.is) ∙ c.in_ok-part.ensures.profiles) in
    let clear : KeepsClear (new_number c.in_ok-numbers.numbers.items) (term_in c.args.first.now.left)
    (term_in c.args.second.now.left) =
    subst (λ (t : Term). KeepsClear (new_number c.in_ok-numbers.numbers.items) (term_of t) (term_in c.args.second.now.left))
    c.term-2.ensures
    (subst (λ (t : Term). KeepsClear (new_number c.in_ok-numbers.numbers.items) (term_of c.term-2.result.now) (term_of t)) c.term-3.ensures
    c.in_ok-numbers.ensures) in
    let place : IsPlace c.requires.0 (sides_of c.args.first.now) (sides_of c.args.second.now) c.args.path.now
    (profiled_in c.in-Some.part)
    (new_number c.in_ok-numbers.numbers.items) =
    record { first_over = c.requires.1; second_over = c.requires.2; is_part = is_part; clear = clear } in
    let is_left : profiled_in c.in_ok-second_left.second_left
    ≡ moved (new_number c.in_ok-numbers.numbers.items) (profiled_in c.args.second.now.left) =
    c.in_ok-second_left.ensures.profiles
    ∙ ap (λ (ns : List (ℕ × ℕ)). profiled_instance (profiled_renaming (new_number ns)) (profiled_in c.args.second.now.left))
    c.as_slice.ensures.value in
    let unified : IsUnifiedBy (profiled_in c.in-Some.part)
    (moved (new_number c.in_ok-numbers.numbers.items) (profiled_in c.args.second.now.left))
    (profiled_pairs c.in-Some-2.subst.pairs.items) =
    subst (λ (w : ProfiledTerm). IsUnifiedBy (profiled_in c.in-Some.part) w (profiled_pairs c.in-Some-2.subst.pairs.items)) is_left
    (subst (λ (o : Option Subst). IfSome o (λ s. IsUnifiedBy (profiled_in c.in-Some.part) (profiled_in c.in_ok-second_left.second_left)
    (profiled_pairs s.pairs.items))) c.in-Some-2.is c.in_ok-subst.ensures.some) in
    λ n s o. put_sorted place (profiled_pairs c.in-Some-2.subst.pairs.items) unified n s (inl o)

pub contracted-requires-clause-right : goal.contracted-requires-clause-right
contracted-requires-clause-right c =
    let is_part : profiled_subterm c.args.path.now (profiled_in c.args.first.now.left) ≡ Some (profiled_in c.in-Some.part) =
    sym (ap (λ (o : Option Sorted). option_map profiled_in o) (sym c.in-Some.is) ∙ c.in_ok-part.ensures.profiles) in
    let clear : KeepsClear (new_number c.in_ok-numbers.numbers.items) (term_in c.args.first.now.left)
    (term_in c.args.second.now.left) =
    subst (λ (t : Term). KeepsClear (new_number c.in_ok-numbers.numbers.items) (term_of t) (term_in c.args.second.now.left))
    c.term-2.ensures
    (subst (λ (t : Term). KeepsClear (new_number c.in_ok-numbers.numbers.items) (term_of c.term-2.result.now) (term_of t)) c.term-3.ensures
    c.in_ok-numbers.ensures) in
    let place : IsPlace c.requires.0 (sides_of c.args.first.now) (sides_of c.args.second.now) c.args.path.now
    (profiled_in c.in-Some.part)
    (new_number c.in_ok-numbers.numbers.items) =
    record { first_over = c.requires.1; second_over = c.requires.2; is_part = is_part; clear = clear } in
    let is_left : profiled_in c.in_ok-second_left.second_left
    ≡ moved (new_number c.in_ok-numbers.numbers.items) (profiled_in c.args.second.now.left) =
    c.in_ok-second_left.ensures.profiles
    ∙ ap (λ (ns : List (ℕ × ℕ)). profiled_instance (profiled_renaming (new_number ns)) (profiled_in c.args.second.now.left))
    c.as_slice.ensures.value in
    let unified : IsUnifiedBy (profiled_in c.in-Some.part)
    (moved (new_number c.in_ok-numbers.numbers.items) (profiled_in c.args.second.now.left))
    (profiled_pairs c.in-Some-2.subst.pairs.items) =
    subst (λ (w : ProfiledTerm). IsUnifiedBy (profiled_in c.in-Some.part) w (profiled_pairs c.in-Some-2.subst.pairs.items)) is_left
    (subst (λ (o : Option Subst). IfSome o (λ s. IsUnifiedBy (profiled_in c.in-Some.part) (profiled_in c.in_ok-second_left.second_left)
    (profiled_pairs s.pairs.items))) c.in-Some-2.is c.in_ok-subst.ensures.some) in
    λ n s o. put_sorted_right place (profiled_pairs c.in-Some-2.subst.pairs.items) unified n s o

pub contracted-requires-clause-second : goal.contracted-requires-clause-second
contracted-requires-clause-second c =
    let is_part : profiled_subterm c.args.path.now (profiled_in c.args.first.now.left) ≡ Some (profiled_in c.in-Some.part) =
    sym (ap (λ (o : Option Sorted). option_map profiled_in o) (sym c.in-Some.is) ∙ c.in_ok-part.ensures.profiles) in
    let clear : KeepsClear (new_number c.in_ok-numbers.numbers.items) (term_in c.args.first.now.left)
    (term_in c.args.second.now.left) =
    subst (λ (t : Term). KeepsClear (new_number c.in_ok-numbers.numbers.items) (term_of t) (term_in c.args.second.now.left))
    c.term-2.ensures
    (subst (λ (t : Term). KeepsClear (new_number c.in_ok-numbers.numbers.items) (term_of c.term-2.result.now) (term_of t)) c.term-3.ensures
    c.in_ok-numbers.ensures) in
    let place : IsPlace c.requires.0 (sides_of c.args.first.now) (sides_of c.args.second.now) c.args.path.now
    (profiled_in c.in-Some.part)
    (new_number c.in_ok-numbers.numbers.items) =
    record { first_over = c.requires.1; second_over = c.requires.2; is_part = is_part; clear = clear } in
    let is_left : profiled_in c.in_ok-second_left.second_left
    ≡ moved (new_number c.in_ok-numbers.numbers.items) (profiled_in c.args.second.now.left) =
    c.in_ok-second_left.ensures.profiles
    ∙ ap (λ (ns : List (ℕ × ℕ)). profiled_instance (profiled_renaming (new_number ns)) (profiled_in c.args.second.now.left))
    c.as_slice.ensures.value in
    let is_right : profiled_in c.in_ok-second_right.second_right
    ≡ moved (new_number c.in_ok-numbers.numbers.items) (profiled_in c.args.second.now.right) =
    c.in_ok-second_right.ensures.profiles
    ∙ ap (λ (ns : List (ℕ × ℕ)). profiled_instance (profiled_renaming (new_number ns)) (profiled_in c.args.second.now.right))
    c.as_slice-2.ensures.value in
    let unified : IsUnifiedBy (profiled_in c.in-Some.part)
    (moved (new_number c.in_ok-numbers.numbers.items) (profiled_in c.args.second.now.left))
    (profiled_pairs c.in-Some-2.subst.pairs.items) =
    subst (λ (w : ProfiledTerm). IsUnifiedBy (profiled_in c.in-Some.part) w (profiled_pairs c.in-Some-2.subst.pairs.items)) is_left
    (subst (λ (o : Option Subst). IfSome o (λ s. IsUnifiedBy (profiled_in c.in-Some.part) (profiled_in c.in_ok-second_left.second_left)
    (profiled_pairs s.pairs.items))) c.in-Some-2.is c.in_ok-subst.ensures.some) in
    subst (λ (w : ProfiledTerm). IsPutSorted (profiled_binding (profiled_pairs c.in-Some-2.subst.pairs.items)) (bare w)) (sym is_right)
    (λ n s o. put_sorted_second place (profiled_pairs c.in-Some-2.subst.pairs.items) unified n s o)

pub contracted-requires-clause-place : goal.contracted-requires-clause-place
contracted-requires-clause-place c =
    let is_part : profiled_subterm c.args.path.now (profiled_in c.args.first.now.left) ≡ Some (profiled_in c.in-Some.part) =
    sym (ap (λ (o : Option Sorted). option_map profiled_in o) (sym c.in-Some.is) ∙ c.in_ok-part.ensures.profiles) in
    let clear : KeepsClear (new_number c.in_ok-numbers.numbers.items) (term_in c.args.first.now.left)
    (term_in c.args.second.now.left) =
    subst (λ (t : Term). KeepsClear (new_number c.in_ok-numbers.numbers.items) (term_of t) (term_in c.args.second.now.left))
    c.term-2.ensures
    (subst (λ (t : Term). KeepsClear (new_number c.in_ok-numbers.numbers.items) (term_of c.term-2.result.now) (term_of t)) c.term-3.ensures
    c.in_ok-numbers.ensures) in
    let place : IsPlace c.requires.0 (sides_of c.args.first.now) (sides_of c.args.second.now) c.args.path.now
    (profiled_in c.in-Some.part)
    (new_number c.in_ok-numbers.numbers.items) =
    record { first_over = c.requires.1; second_over = c.requires.2; is_part = is_part; clear = clear } in
    let is_left : profiled_in c.in_ok-second_left.second_left
    ≡ moved (new_number c.in_ok-numbers.numbers.items) (profiled_in c.args.second.now.left) =
    c.in_ok-second_left.ensures.profiles
    ∙ ap (λ (ns : List (ℕ × ℕ)). profiled_instance (profiled_renaming (new_number ns)) (profiled_in c.args.second.now.left))
    c.as_slice.ensures.value in
    let is_right : profiled_in c.in_ok-second_right.second_right
    ≡ moved (new_number c.in_ok-numbers.numbers.items) (profiled_in c.args.second.now.right) =
    c.in_ok-second_right.ensures.profiles
    ∙ ap (λ (ns : List (ℕ × ℕ)). profiled_instance (profiled_renaming (new_number ns)) (profiled_in c.args.second.now.right))
    c.as_slice-2.ensures.value in
    let unified : IsUnifiedBy (profiled_in c.in-Some.part)
    (moved (new_number c.in_ok-numbers.numbers.items) (profiled_in c.args.second.now.left))
    (profiled_pairs c.in-Some-2.subst.pairs.items) =
    subst (λ (w : ProfiledTerm). IsUnifiedBy (profiled_in c.in-Some.part) w (profiled_pairs c.in-Some-2.subst.pairs.items)) is_left
    (subst (λ (o : Option Subst). IfSome o (λ s. IsUnifiedBy (profiled_in c.in-Some.part) (profiled_in c.in_ok-second_left.second_left)
    (profiled_pairs s.pairs.items))) c.in-Some-2.is c.in_ok-subst.ensures.some) in
    subst (λ (w : ProfiledTerm). IsReplacedAt c.args.path.now (profiled_binding (profiled_pairs c.in-Some-2.subst.pairs.items)) w
    (profiled_in c.args.first.now.left)) (sym is_right)
    (part_replaced place (profiled_pairs c.in-Some-2.subst.pairs.items) unified)

pub returns-clause-some : goal.returns-clause-some
returns-clause-some c =
    let is_part : profiled_subterm c.args.path.now (profiled_in c.args.first.now.left) ≡ Some (profiled_in c.in-Some.part) =
    sym (ap (λ (o : Option Sorted). option_map profiled_in o) (sym c.in-Some.is) ∙ c.in_ok-part.ensures.profiles) in
    let clear : KeepsClear (new_number c.in_ok-numbers.numbers.items) (term_in c.args.first.now.left)
    (term_in c.args.second.now.left) =
    subst (λ (t : Term). KeepsClear (new_number c.in_ok-numbers.numbers.items) (term_of t) (term_in c.args.second.now.left))
    c.term-2.ensures
    (subst (λ (t : Term). KeepsClear (new_number c.in_ok-numbers.numbers.items) (term_of c.term-2.result.now) (term_of t)) c.term-3.ensures
    c.in_ok-numbers.ensures) in
    let place : IsPlace c.requires.0 (sides_of c.args.first.now) (sides_of c.args.second.now) c.args.path.now
    (profiled_in c.in-Some.part)
    (new_number c.in_ok-numbers.numbers.items) =
    record { first_over = c.requires.1; second_over = c.requires.2; is_part = is_part; clear = clear } in
    let is_left : profiled_in c.in_ok-second_left.second_left
    ≡ moved (new_number c.in_ok-numbers.numbers.items) (profiled_in c.args.second.now.left) =
    c.in_ok-second_left.ensures.profiles
    ∙ ap (λ (ns : List (ℕ × ℕ)). profiled_instance (profiled_renaming (new_number ns)) (profiled_in c.args.second.now.left))
    c.as_slice.ensures.value in
    let is_right : profiled_in c.in_ok-second_right.second_right
    ≡ moved (new_number c.in_ok-numbers.numbers.items) (profiled_in c.args.second.now.right) =
    c.in_ok-second_right.ensures.profiles
    ∙ ap (λ (ns : List (ℕ × ℕ)). profiled_instance (profiled_renaming (new_number ns)) (profiled_in c.args.second.now.right))
    c.as_slice-2.ensures.value in
    let is_node : IsNode (term_in c.in-Some.part) =
    subst (λ (t : Term). IsNode (term_of t)) c.term.ensures
    (subst (λ (t : Term). IsNode (term_of t)) (sym c.in_default-term.is)
    (subst (λ (p : ProfiledTerm). IsNode (bare p))
    (sym (profiled_Node c.in_default-term.field-0 c.in_default-term.field-1 c.in_default-term.field-2)) tt)) in
    let unified : IsUnifiedBy (profiled_in c.in-Some.part)
    (moved (new_number c.in_ok-numbers.numbers.items) (profiled_in c.args.second.now.left))
    (profiled_pairs c.in-Some-2.subst.pairs.items) =
    subst (λ (w : ProfiledTerm). IsUnifiedBy (profiled_in c.in-Some.part) w (profiled_pairs c.in-Some-2.subst.pairs.items)) is_left
    (subst (λ (o : Option Subst). IfSome o (λ s. IsUnifiedBy (profiled_in c.in-Some.part) (profiled_in c.in_ok-second_left.second_left)
    (profiled_pairs s.pairs.items))) c.in-Some-2.is c.in_ok-subst.ensures.some) in
    let made : IsContracted (sides_of c.args.first.now) (sides_of c.args.second.now) c.args.path.now
    (new_number c.in_ok-numbers.numbers.items)
    (profiled_pairs c.in-Some-2.subst.pairs.items) (overlap_of c.in_ok-pair.pair) =
    record {
      peak = c.in_ok-pair.ensures.peak;
      left = c.in_ok-pair.ensures.left;
      right = subst (λ (w : ProfiledTerm). profiled_put_at c.args.path.now
          (profiled_instance (profiled_binding (profiled_pairs c.in-Some-2.subst.pairs.items)) w)
          (profiled_instance (profiled_binding (profiled_pairs c.in-Some-2.subst.pairs.items)) (profiled_in c.args.first.now.left))
          ≡ Some (profiled_in c.in_ok-pair.pair.right)) is_right c.in_ok-pair.ensures.right;
    } in
    makes_pair place is_node (profiled_pairs c.in-Some-2.subst.pairs.items) unified (overlap_of c.in_ok-pair.pair)
    (overlap_of c.in_ok-numbered.field-0) made
    c.in_ok-numbered.ensures

pub returns-clause-is_of : goal.returns-clause-is_of
returns-clause-is_of c =
    let is_part : profiled_subterm c.args.path.now (profiled_in c.args.first.now.left) ≡ Some (profiled_in c.in-Some.part) =
    sym (ap (λ (o : Option Sorted). option_map profiled_in o) (sym c.in-Some.is) ∙ c.in_ok-part.ensures.profiles) in
    let clear : KeepsClear (new_number c.in_ok-numbers.numbers.items) (term_in c.args.first.now.left)
    (term_in c.args.second.now.left) =
    subst (λ (t : Term). KeepsClear (new_number c.in_ok-numbers.numbers.items) (term_of t) (term_in c.args.second.now.left))
    c.term-2.ensures
    (subst (λ (t : Term). KeepsClear (new_number c.in_ok-numbers.numbers.items) (term_of c.term-2.result.now) (term_of t)) c.term-3.ensures
    c.in_ok-numbers.ensures) in
    let is_left : profiled_in c.in_ok-second_left.second_left
    ≡ moved (new_number c.in_ok-numbers.numbers.items) (profiled_in c.args.second.now.left) =
    c.in_ok-second_left.ensures.profiles
    ∙ ap (λ (ns : List (ℕ × ℕ)). profiled_instance (profiled_renaming (new_number ns)) (profiled_in c.args.second.now.left))
    c.as_slice.ensures.value in
    let is_right : profiled_in c.in_ok-second_right.second_right
    ≡ moved (new_number c.in_ok-numbers.numbers.items) (profiled_in c.args.second.now.right) =
    c.in_ok-second_right.ensures.profiles
    ∙ ap (λ (ns : List (ℕ × ℕ)). profiled_instance (profiled_renaming (new_number ns)) (profiled_in c.args.second.now.right))
    c.as_slice-2.ensures.value in
    let unified : IsUnifiedBy (profiled_in c.in-Some.part)
    (moved (new_number c.in_ok-numbers.numbers.items) (profiled_in c.args.second.now.left))
    (profiled_pairs c.in-Some-2.subst.pairs.items) =
    subst (λ (w : ProfiledTerm). IsUnifiedBy (profiled_in c.in-Some.part) w (profiled_pairs c.in-Some-2.subst.pairs.items)) is_left
    (subst (λ (o : Option Subst). IfSome o (λ s. IsUnifiedBy (profiled_in c.in-Some.part) (profiled_in c.in_ok-second_left.second_left)
    (profiled_pairs s.pairs.items))) c.in-Some-2.is c.in_ok-subst.ensures.some) in
    let made : IsContracted (sides_of c.args.first.now) (sides_of c.args.second.now) c.args.path.now
    (new_number c.in_ok-numbers.numbers.items)
    (profiled_pairs c.in-Some-2.subst.pairs.items) (overlap_of c.in_ok-pair.pair) =
    record {
      peak = c.in_ok-pair.ensures.peak;
      left = c.in_ok-pair.ensures.left;
      right = subst (λ (w : ProfiledTerm). profiled_put_at c.args.path.now
          (profiled_instance (profiled_binding (profiled_pairs c.in-Some-2.subst.pairs.items)) w)
          (profiled_instance (profiled_binding (profiled_pairs c.in-Some-2.subst.pairs.items)) (profiled_in c.args.first.now.left))
          ≡ Some (profiled_in c.in_ok-pair.pair.right)) is_right c.in_ok-pair.ensures.right;
    } in
    λ signature one two.
    let place : IsPlace signature (sides_of c.args.first.now) (sides_of c.args.second.now) c.args.path.now
    (profiled_in c.in-Some.part)
    (new_number c.in_ok-numbers.numbers.items) =
    record { first_over = one; second_over = two; is_part = is_part; clear = clear } in
    pair_of_signature signature place (profiled_pairs c.in-Some-2.subst.pairs.items) unified (overlap_of c.in_ok-pair.pair)
    (overlap_of c.in_ok-numbered.field-0) made
    c.in_ok-numbered.ensures
