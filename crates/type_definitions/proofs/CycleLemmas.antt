-- The first mention on a cycle: one mention more, one type more.
use Rattle.std.proofs.Common.{◌≡◌, ℕ, ◌+◌, ◌<◌, ◌≤◌, ◌⊎◌, List, [], ◌∷◌, length, get_or, inl, inr, true, sym, ap, subst, ◌∙◌, arith}
use Rattle.std.specs.Prelude.{Option, Some, None, MatchOption, slice_get}
use Rattle.std.proofs.lemmas.Bool.{cases_lt}
use Rattle.std.proofs.lemmas.Option.{slice_get-get_or, slice_get_within, get_or_from_slice_get}
use Rattle.type_definitions.specs.TypeGraph.{is_among, mentioned_by, IsWithin, IsMention, IsOnCycle, HasCycle, IsFirstMentionOnCycle}
use Rattle.type_definitions.specs.FirstInRow.{HasNoneInRow, IsFirstInRow}
use Rattle.type_definitions.proofs.NumberLists.{among_at, at_among, mentioner_within}

pub mention_there : (graph : List (List ℕ)) (by : ℕ) (ms : List ℕ) → ms ≡ mentioned_by graph by → (k : ℕ) → k < length ms
    → IsMention graph by k (get_or ms k 0)
mention_there graph by ms is k inside =
    subst (λ (xs : List ℕ). slice_get xs k ≡ Some (get_or ms k 0)) is (slice_get-get_or ms k 0 inside)

pub mention_type : (graph : List (List ℕ)) (by : ℕ) (ms : List ℕ) → IsWithin graph → ms ≡ mentioned_by graph by → (k : ℕ)
    → k < length ms → get_or ms k 0 < length graph
mention_type graph by ms within is k inside =
    within by (get_or ms k 0) (among_at (mentioned_by graph by) k (get_or ms k 0) (mention_there graph by ms is k inside))

pub one_more_mention : (graph : List (List ℕ)) (by : ℕ) (ms : List ℕ) → ms ≡ mentioned_by graph by → (position : ℕ)
    → ((m j : ℕ) → m < position → IsMention graph by m j → ¬ IsOnCycle graph by j)
    → ¬ IsOnCycle graph by (get_or ms position 0)
    → (m j : ℕ) → m < position + 1 → IsMention graph by m j → ¬ IsOnCycle graph by j
one_more_mention graph by ms is position so_far here m j below there =
    elim (cases_lt m position) [
      | inl before ↦ so_far m j before there
      | inr as_far ↦
          let same : m ≡ position = omega arith in
          let found : slice_get ms position ≡ Some j =
          subst (λ (k : ℕ). slice_get ms k ≡ Some j) same (subst (λ (xs : List ℕ). slice_get xs m ≡ Some j) (sym is) there) in
          let at : get_or ms position 0 ≡ j = get_or_from_slice_get ms position j 0 found in
          subst (λ (k : ℕ). ¬ IsOnCycle graph by k) at here
    ]

pub none_in_row : (graph : List (List ℕ)) (by : ℕ) (ms : List ℕ) → ms ≡ mentioned_by graph by → (position : ℕ)
    → ((m j : ℕ) → m < position → IsMention graph by m j → ¬ IsOnCycle graph by j) → length ms ≤ position
    → HasNoneInRow graph by
none_in_row graph by ms is position so_far past m j there =
    let inside : m < length ms =
    slice_get_within ms m j (subst (λ (xs : List ℕ). slice_get xs m ≡ Some j) (sym is) there) in
    let below : m < position = omega arith in
    so_far m j below there

pub first_of_all : (graph : List (List ℕ)) (by position : ℕ) → ((i : ℕ) → i < by → HasNoneInRow graph i)
    → IsFirstInRow graph by position → IsFirstMentionOnCycle graph by position
first_of_all graph by position so_far first = record {
  mentioned = first.mentioned;
  is_there = first.is_there;
  on_cycle = first.on_cycle;
  first = λ l m j before there.
      elim before [
        | inl earlier ↦ so_far l earlier m j there
        | inr here ↦
            let there_too : IsMention graph by m j = subst (λ (i : ℕ). IsMention graph i m j) here.0 there in
            subst (λ (i : ℕ). ¬ IsOnCycle graph i j) (sym here.0) (first.first m j here.1 there_too)
      ];
}

pub one_more_type : (graph : List (List ℕ)) (by : ℕ) → ((i : ℕ) → i < by → HasNoneInRow graph i) → HasNoneInRow graph by
    → (i : ℕ) → i < by + 1 → HasNoneInRow graph i
one_more_type graph by so_far here i below =
    elim (cases_lt i by) [
      | inl before ↦ so_far i before
      | inr as_far ↦ let same : by ≡ i = omega arith in subst (λ (k : ℕ). HasNoneInRow graph k) same here
    ]

pub some_in_a_row : (graph : List (List ℕ)) (by : ℕ) → ((i : ℕ) → i < by → HasNoneInRow graph i) → length graph ≤ by
    → HasCycle graph → ⊥
some_in_a_row graph by none past cycle =
    let within : cycle.0 < length graph = mentioner_within graph cycle.0 cycle.1 cycle.2 in
    let below : cycle.0 < by = omega arith in
    let at = at_among (mentioned_by graph cycle.0) cycle.1 cycle.2 in
    none cycle.0 below at.0 cycle.1 at.1 cycle.3

pub found_in_row : (graph : List (List ℕ)) (by p : ℕ) (o : Option ℕ) → o ≡ Some p
    → MatchOption o (HasNoneInRow graph by) (λ k. IsFirstInRow graph by k) → IsFirstInRow graph by p
found_in_row graph by p o is h =
    subst (λ (x : Option ℕ). MatchOption x (HasNoneInRow graph by) (λ k. IsFirstInRow graph by k)) is h

pub not_in_row : (graph : List (List ℕ)) (by : ℕ) (o : Option ℕ) → o ≡ None
    → MatchOption o (HasNoneInRow graph by) (λ k. IsFirstInRow graph by k) → HasNoneInRow graph by
not_in_row graph by o is h =
    subst (λ (x : Option ℕ). MatchOption x (HasNoneInRow graph by) (λ k. IsFirstInRow graph by k)) is h
