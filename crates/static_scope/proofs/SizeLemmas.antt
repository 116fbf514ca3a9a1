-- The sizes of processes, counted from the last one of the text to the first, and where they stand in the list of all.
use Rattle.std.proofs.Common.{◌≡◌, ◌<◌, ℕ, zero, suc, ◌+◌, ◌-◌, List, [], ◌∷◌, ◌++◌, length, drop, get_or, refl, ap, sym, ◌∙◌, arith}
use Rattle.std.specs.Prelude.{Option}
use Rattle.std.proofs.Math.Seq.{drop-append_seam}
use Rattle.std.proofs.lemmas.List.{append-nil, append_assoc, length-append}
use Rattle.syntax_trees.specs.WrittenDefinition.{WrittenInner, WrittenInners, inner_item, process, no_inner, inner_then, inners_of}
use Rattle.scope_parts.specs.Numbering.{process_count, processes_count}
use Rattle.static_scope.specs.Sizes.{definition_sizes, sizes_of_all, steps_over, steps_over_all, Uncounted, with_own_size, counted_out, with_own_open, steps_left, BeginsAt}

mutual
  pub sized_one : (inner : WrittenInner) → length (definition_sizes inner) ≡ process_count inner
  sized_one (inner_item item) = refl
  sized_one (process heading body inner) = ap suc (sized_all inner)

  pub sized_all : (inners : WrittenInners) → length (sizes_of_all inners) ≡ processes_count inners
  sized_all no_inner = refl
  sized_all (inner_then inner others) =
      let first = sized_one inner in
      let rest = sized_all others in
      length-append (definition_sizes inner) (sizes_of_all others) ∙ omega (arith, first, rest)

-- ---- Counting

sizes_end : (xs : List WrittenInner) (x : WrittenInner)
    → sizes_of_all (inners_of (xs ++ x ∷ [])) ≡ sizes_of_all (inners_of xs) ++ definition_sizes x
sizes_end [] x = append-nil (definition_sizes x)
sizes_end (y ∷ xs) x =
    ap (λ (ns : List ℕ). definition_sizes y ++ ns) (sizes_end xs x)
    ∙ sym (append_assoc (definition_sizes y) (sizes_of_all (inners_of xs)) (definition_sizes x))

steps_end : (xs : List WrittenInner) (x : WrittenInner)
    → steps_over_all (inners_of (xs ++ x ∷ [])) ≡ steps_over_all (inners_of xs) + steps_over x
steps_end [] x = omega arith
steps_end (y ∷ xs) x = let rest = steps_end xs x in omega (arith, rest)

own_size : (inner : WrittenInners) (sizes : List ℕ) → length (sizes_of_all inner ++ sizes) - length sizes ≡ processes_count inner
own_size inner sizes =
    let both : length (sizes_of_all inner ++ sizes) ≡ length (sizes_of_all inner) + length sizes =
    length-append (sizes_of_all inner) sizes in
    let own = sized_all inner in
    omega (arith, both, own)

-- the last declaration of a list is opened, or passed over
pub last_opened : (x : WrittenInner) (xs : List WrittenInner) (behind : Option ℕ) (others : List Uncounted) (sizes : List ℕ)
    → counted_out (with_own_open x (length sizes) (record { inners = inners_of xs; behind = behind } ∷ others)) sizes
    ≡ counted_out (record { inners = inners_of (xs ++ x ∷ []); behind = behind } ∷ others) sizes
last_opened (inner_item item) xs behind others sizes =
    ap (λ (ns : List ℕ). counted_out others (with_own_size behind (ns ++ sizes)))
    (sym (sizes_end xs (inner_item item) ∙ append-nil (sizes_of_all (inners_of xs))))
last_opened (process heading body inner) xs behind others sizes =
    ap
    (λ (n : ℕ). counted_out others (with_own_size behind (sizes_of_all (inners_of xs) ++ suc n ∷ (sizes_of_all inner ++ sizes))))
    (own_size inner sizes)
    ∙ ap (λ (ns : List ℕ). counted_out others (with_own_size behind ns))
    (sym (append_assoc (sizes_of_all (inners_of xs)) (definition_sizes (process heading body inner)) sizes))
    ∙ ap (λ (ns : List ℕ). counted_out others (with_own_size behind (ns ++ sizes))) (sym (sizes_end xs (process heading body inner)))

pub fewer_steps : (x : WrittenInner) (xs : List WrittenInner) (behind : Option ℕ) (others : List Uncounted) (many : ℕ)
    → steps_left (with_own_open x many (record { inners = inners_of xs; behind = behind } ∷ others))
    < steps_left (record { inners = inners_of (xs ++ x ∷ []); behind = behind } ∷ others)
fewer_steps (inner_item item) xs behind others many =
    let whole = steps_end xs (inner_item item) in omega (arith, whole)
fewer_steps (process heading body inner) xs behind others many =
    let whole = steps_end xs (process heading body inner) in omega (arith, whole)

-- ---- Where a size stands

here_within : {A : Type 0} (k : ℕ) (xs : List A) (y d : A) (ys : List A) → drop k xs ≡ y ∷ ys → (k < length xs) × (get_or xs k d ≡ y)
here_within zero [] y d ys is = absurd (let no : [] ≡ y ∷ ys = is in cc)
here_within zero (x ∷ xs) y d ys is = (omega arith, let same : x ∷ xs ≡ y ∷ ys = is in cc)
here_within (suc k) [] y d ys is = absurd (let no : [] ≡ y ∷ ys = is in cc)
here_within (suc k) (x ∷ xs) y d ys is =
    let rest = here_within k xs y d ys is in
    let below = rest.0 in
    (omega (arith, below), rest.1)

drop_none : {A : Type 0} (n : ℕ) (xs : List A) → xs ≡ [] → drop n xs ≡ []
drop_none zero xs none = none
drop_none (suc n) [] none = refl
drop_none (suc n) (x ∷ xs) none = absurd (let no : x ∷ xs ≡ [] = none in cc)

drop_more : {A : Type 0} (k m : ℕ) (xs : List A) → drop (k + m) xs ≡ drop m (drop k xs)
drop_more zero m xs = let same : 0 + m ≡ m = omega arith in ap (λ (n : ℕ). drop n xs) same
drop_more (suc k) m [] = drop_none (suc k + m) [] refl ∙ sym (drop_none m [] refl)
drop_more (suc k) m (x ∷ xs) =
    let next : suc k + m ≡ suc (k + m) = omega arith in
    ap (λ (n : ℕ). drop n (x ∷ xs)) next ∙ drop_more k m xs

-- the size of a process is there
pub size_there : (size : ℕ) (others : List ℕ) (position d : ℕ) (sizes : List ℕ) → BeginsAt (size ∷ others) position sizes
    → (position < length sizes) × (get_or sizes position d ≡ size)
size_there size others position d sizes begins = here_within position sizes size d (others ++ begins.0) begins.1

-- behind a process come those that it declares, and behind these the next ones
pub begins_inside : (size : ℕ) (others : List ℕ) (position : ℕ) (sizes : List ℕ) → BeginsAt (size ∷ others) position sizes
    → BeginsAt others (suc position) sizes
begins_inside size others position sizes begins =
    let next : suc position ≡ position + 1 = omega arith in (
      begins.0,
      ap (λ (n : ℕ). drop n sizes) next ∙ drop_more position 1 sizes ∙ ap (λ (ns : List ℕ). drop 1 ns) begins.1,
    )

pub begins_behind : (first others : List ℕ) (position : ℕ) (sizes : List ℕ) → BeginsAt (first ++ others) position sizes
    → BeginsAt others (position + length first) sizes
begins_behind first others position sizes begins = (
  begins.0,
  drop_more position (length first) sizes ∙ ap (λ (ns : List ℕ). drop (length first) ns) (begins.1 ∙ append_assoc first others begins.0)
      ∙ drop-append_seam first (others ++ begins.0),
)

pub begins_front : (first others : List ℕ) (position : ℕ) (sizes : List ℕ) → BeginsAt (first ++ others) position sizes
    → BeginsAt first position sizes
begins_front first others position sizes begins = (others ++ begins.0, begins.1 ∙ append_assoc first others begins.0)

pub begins_so : (one other : List ℕ) (position : ℕ) (sizes : List ℕ) → one ≡ other → BeginsAt one position sizes
    → BeginsAt other position sizes
begins_so one other position sizes same begins = (begins.0, begins.1 ∙ ap (λ (ns : List ℕ). ns ++ begins.0) same)
