use Rattle.std.proofs.Common.{◌≡◌, ℕ, List, [], Bor, Vec, Global, ap, sym, ◌∙◌, subst, refl}
use Rattle.std.specs.Prelude.{Option, Some, None}
use Rattle.std.specs.Option.{option_map}
use Rattle.sort_terms.specs.ProfiledTerm.{ProfiledTerm, head_sort}
use Rattle.sort_terms.specs.SortedView.{profiled_in}
use Rattle.sort_terms.specs.TermView.{profiled_of}
use Rattle.sort_terms.specs.declared.terms.Term.{Term}
use Rattle.sort_terms.specs.declared.sorted.Sorted.{Sorted}
use Rattle.term_match.specs.FoundView.{found_pairs}
use Rattle.term_match.specs.Matched.{IsMatchedBy, IsPair}
use Rattle.term_match.specs.Numbers.{AreDistinctNumbers}
use Rattle.term_match.specs.Search.{searched}
use Rattle.term_match.specs.SubstView.{profiled_pairs}
use Rattle.term_match.proofs.MatchLemmas.{search_is_match, search_is_distinct, search_fits, no_search_no_match, numbers_same, numbers_of}
use Rattle.term_match.proofs.matching.matches.Goals as goal

pub copies-requires : goal.copies-requires
copies-requires c = λ n u is.
    let found : searched (profiled_in c.args.pattern.now) (profiled_in c.args.term.now) [] ≡ Some (found_pairs c.in-Some.found.items) =
    sym (ap (λ (o : Option (Vec (ℕ × Bor Term) Global)). option_map (λ (pairs : Vec (ℕ × Bor Term) Global). found_pairs pairs.items) o)
    (sym c.in-Some.is)
    ∙ c.in_ok-found.ensures
    ∙ (λ i. searched (profiled_of (c.term.ensures i)) (profiled_of (c.term-2.ensures i)) (found_pairs (c.new.ensures.items i)))) in
    search_fits (profiled_in c.args.pattern.now) (profiled_in c.args.term.now)
    (found_pairs c.in-Some.found.items) found c.args.term.now.fits n u
    (subst (λ (xs : List (ℕ × Bor Term)). IsPair (found_pairs xs) n u) c.as_slice.ensures.value is)

pub of-requires : goal.of-requires
of-requires c =
    let found : searched (profiled_in c.args.pattern.now) (profiled_in c.args.term.now) [] ≡ Some (found_pairs c.in-Some.found.items) =
    sym (ap (λ (o : Option (Vec (ℕ × Bor Term) Global)). option_map (λ (pairs : Vec (ℕ × Bor Term) Global). found_pairs pairs.items) o)
    (sym c.in-Some.is)
    ∙ c.in_ok-found.ensures
    ∙ (λ i. searched (profiled_of (c.term.ensures i)) (profiled_of (c.term-2.ensures i)) (found_pairs (c.new.ensures.items i)))) in
    let copied : found_pairs c.in-Some.found.items ≡ profiled_pairs c.in_ok-copies-in-Some.field-0.items =
    sym (c.in_ok-copies-in-Some.ensures ∙ ap found_pairs c.as_slice.ensures.value) in
    subst (λ (ns : List ℕ). AreDistinctNumbers ns) (sym (numbers_same c.in_ok-copies-in-Some.field-0.items))
    (subst (λ (pairs : List (ℕ × ProfiledTerm)). AreDistinctNumbers (numbers_of pairs)) copied
    (search_is_distinct (profiled_in c.args.pattern.now) (profiled_in c.args.term.now) (found_pairs c.in-Some.found.items) found))

pub returns-in_ok-copies-in-Some-clause-none : goal.returns-in_ok-copies-in-Some-clause-none
returns-in_ok-copies-in-Some-clause-none c =
    let found : searched (profiled_in c.args.pattern.now) (profiled_in c.args.term.now) [] ≡ Some (found_pairs c.in-Some.found.items) =
    sym (ap (λ (o : Option (Vec (ℕ × Bor Term) Global)). option_map (λ (pairs : Vec (ℕ × Bor Term) Global). found_pairs pairs.items) o)
    (sym c.in-Some.is)
    ∙ c.in_ok-found.ensures
    ∙ (λ i. searched (profiled_of (c.term.ensures i)) (profiled_of (c.term-2.ensures i)) (found_pairs (c.new.ensures.items i)))) in
    let same : head_sort (profiled_in c.args.pattern.now) ≡ head_sort (profiled_in c.args.term.now) =
    c.args.pattern.now.headed ∙ sym c.sort.ensures ∙ c.if-sort.false ∙ c.sort-2.ensures ∙ sym c.args.term.now.headed in (
      (λ none. cc),
      (λ no. absurd (no (
        same,
        (
          _,
          (search_is_match (profiled_in c.args.pattern.now) (profiled_in c.args.term.now)
              (found_pairs c.in-Some.found.items) found).makes,
        ),
      ))),
    )

pub returns-in_ok-copies-in-Some-clause-some : goal.returns-in_ok-copies-in-Some-clause-some
returns-in_ok-copies-in-Some-clause-some c =
    let found : searched (profiled_in c.args.pattern.now) (profiled_in c.args.term.now) [] ≡ Some (found_pairs c.in-Some.found.items) =
    sym (ap (λ (o : Option (Vec (ℕ × Bor Term) Global)). option_map (λ (pairs : Vec (ℕ × Bor Term) Global). found_pairs pairs.items) o)
    (sym c.in-Some.is)
    ∙ c.in_ok-found.ensures
    ∙ (λ i. searched (profiled_of (c.term.ensures i)) (profiled_of (c.term-2.ensures i)) (found_pairs (c.new.ensures.items i)))) in
    let copied : found_pairs c.in-Some.found.items ≡ profiled_pairs c.in_ok-copies-in-Some.field-0.items =
    sym (c.in_ok-copies-in-Some.ensures ∙ ap found_pairs c.as_slice.ensures.value) in
    subst (λ (pairs : List (ℕ × ProfiledTerm)). IsMatchedBy (profiled_in c.args.pattern.now) (profiled_in c.args.term.now) pairs)
    (copied ∙ ap (λ (pairs : Vec (ℕ × Sorted) Global). profiled_pairs pairs.items) (sym c.of.ensures))
    (search_is_match (profiled_in c.args.pattern.now) (profiled_in c.args.term.now) (found_pairs c.in-Some.found.items) found)

pub returns-in-None-clause-none : goal.returns-in-None-clause-none
returns-in-None-clause-none c =
    let none : searched (profiled_in c.args.pattern.now) (profiled_in c.args.term.now) [] ≡ None =
    sym (ap (λ (o : Option (Vec (ℕ × Bor Term) Global)). option_map (λ (pairs : Vec (ℕ × Bor Term) Global). found_pairs pairs.items) o)
    (sym c.in-None.is)
    ∙ c.in_ok-found.ensures
    ∙ (λ i. searched (profiled_of (c.term.ensures i)) (profiled_of (c.term-2.ensures i)) (found_pairs (c.new.ensures.items i)))) in (
      (λ e. no_search_no_match (profiled_in c.args.pattern.now) (profiled_in c.args.term.now) c.requires.one_sort none),
      (λ no. refl),
    )
