-- Every term is accessible under the path order: below it nothing descends without end. The proof is by the rank of
-- the operation, then by the arguments in the order in which they are compared (Baader and Nipkow, 5.4).
use Rattle.std.proofs.Common.{◌<◌, ℕ, zero, suc, arith}
use Rattle.lotos_base.specs.Term.{Term, variable, node, Terms, no_terms, term_then}
use Rattle.rewriting_theory.specs.Precedence.{Status, from_left, from_right, Precedence, IsOver}
use Rattle.rewriting_theory.specs.OrderFamily.{SameLength, Exceeds, by_argument, by_operation, by_comparison, SomeReaches, is_first, first_exceeds, among_rest, ExceedsAll, than_first, ListExceeds, left_here, left_later, right_here, right_later}

-- Every chain of lesser terms below the term ends.
pub data Ends (precedence : Precedence) : Term → Type 0 where
  ends : {t : Term} → ((u : Term) → Exceeds precedence t u → Ends precedence u) → Ends precedence t

-- So it is with each of the terms.
abbrev pub AllEnd : Precedence → Terms → Type 0
AllEnd precedence no_terms = Unit {0}
AllEnd precedence (term_then t ts) = Ends precedence t × AllEnd precedence ts

-- Every chain of lesser lists whose members end is itself bound to end.
data ListEnds (precedence : Precedence) (status : Status) : Terms → Type 0 where
  list_ends : {ts : Terms} → ((us : Terms) → ListExceeds precedence status ts us → AllEnd precedence us
      → ListEnds precedence status us) → ListEnds precedence status ts

below_end : {p : Precedence} {t : Term} → Ends p t → (u : Term) → Exceeds p t u → Ends p u
below_end (ends h) = h

-- what one of some ending terms reaches ends
reached_ends : {p : Precedence} {ts : Terms} {u : Term} → SomeReaches p ts u → AllEnd p ts → Ends p u
reached_ends is_first all = all.0
reached_ends (first_exceeds {t = t} {u = u} g) all = below_end all.0 u g
reached_ends (among_rest r) all = reached_ends r all.1

-- nothing is below a variable
pub nothing_below_variable : {p : Precedence} {n s : ℕ} {u : Term} → Exceeds p (variable n s) u → ⊥
nothing_below_variable g = elim g [ ]

variable_ends : (p : Precedence) (n s : ℕ) → Ends p (variable n s)
variable_ends p n s = ends (λ u g. absurd (nothing_below_variable g))

-- ---- lengths

pub same_length_refl : (ts : Terms) → SameLength ts ts
same_length_refl no_terms = tt
same_length_refl (term_then t ts) = same_length_refl ts

pub same_length_trans : (ts us vs : Terms) → SameLength ts us → SameLength us vs → SameLength ts vs
same_length_trans no_terms no_terms vs h k = k
same_length_trans no_terms (term_then u us) vs h k = absurd h
same_length_trans (term_then t ts) no_terms vs h k = absurd h
same_length_trans (term_then t ts) (term_then u us) no_terms h k = k
same_length_trans (term_then t ts) (term_then u us) (term_then v vs) h k = same_length_trans ts us vs h k

pub list_exceeds_length : {p : Precedence} {status : Status} {ts us : Terms} → ListExceeds p status ts us → SameLength ts us
list_exceeds_length (left_here g same) = same
list_exceeds_length (left_later l) = list_exceeds_length l
list_exceeds_length (right_here {ts = ts} g) = same_length_refl ts
list_exceeds_length (right_later l) = list_exceeds_length l

pub nothing_below_no_terms : {p : Precedence} {status : Status} {us : Terms} → ListExceeds p status no_terms us → ⊥
nothing_below_no_terms {status = from_left} l = elim l [ ]
nothing_below_no_terms {status = from_right} l = elim l [ ]

-- ---- lists compared from the left

-- what is below (t, ts), by cases
left_step : {p : Precedence} {t : Term} {ts vs : Terms} → ListExceeds p from_left (term_then t ts) vs → AllEnd p vs
    → ((u : Term) (us : Terms) → Exceeds p t u → SameLength ts us → AllEnd p us → ListEnds p from_left (term_then u us))
    → ((us : Terms) → ListExceeds p from_left ts us → AllEnd p us → ListEnds p from_left (term_then t us))
    → ListEnds p from_left vs
left_step (left_here {u = u} {us = us} g same) all head rest = head u us g same all.1
left_step (left_later {us = us} l) all head rest = rest us l all.1

left_cons : {p : Precedence} {t : Term} → Ends p t → (ts : Terms)
    → ((us : Terms) → SameLength ts us → AllEnd p us → ListEnds p from_left us)
    → {us : Terms} → ListEnds p from_left us → SameLength ts us → ListEnds p from_left (term_then t us)
left_cons {t = t} (ends h) ts tails {us = us} (list_ends l) same =
    list_ends (λ vs g all. left_step g all
    (λ u ws greater longer ending.
    let as_long = same_length_trans ts us ws same longer in
    left_cons (h u greater) ts tails (tails ws as_long ending) as_long)
    (λ ws lesser ending. left_cons (ends h) ts tails (l ws lesser ending) (same_length_trans ts us ws same (list_exceeds_length lesser))))

left_ends : {p : Precedence} (ts us : Terms) → SameLength ts us → AllEnd p us → ListEnds p from_left us
left_ends no_terms no_terms same all = list_ends (λ vs g ending. absurd (nothing_below_no_terms g))
left_ends no_terms (term_then u us) same all = absurd same
left_ends (term_then t ts) no_terms same all = absurd same
left_ends (term_then t ts) (term_then u us) same all = left_cons all.0 ts (left_ends ts) (left_ends ts us same all.1) same

-- ---- lists compared from the right

right_step : {p : Precedence} {t : Term} {ts vs : Terms} → ListExceeds p from_right (term_then t ts) vs → AllEnd p vs
    → ((u : Term) → Exceeds p t u → ListEnds p from_right (term_then u ts))
    → ((u : Term) (us : Terms) → ListExceeds p from_right ts us → Ends p u → AllEnd p us
    → ListEnds p from_right (term_then u us))
    → ListEnds p from_right vs
right_step (right_here {u = u} g) all head rest = head u g
right_step (right_later {u = u} {us = us} l) all head rest = rest u us l all.0 all.1

right_cons : {p : Precedence} {ts : Terms} → ListEnds p from_right ts → {t : Term} → Ends p t
    → ListEnds p from_right (term_then t ts)
right_cons (list_ends l) (ends h) =
    list_ends (λ vs g all. right_step g all
    (λ u greater. right_cons (list_ends l) (h u greater))
    (λ u us lesser ending all_ending. right_cons (l us lesser all_ending) ending))

right_ends : {p : Precedence} (ts : Terms) → AllEnd p ts → ListEnds p from_right ts
right_ends no_terms all = list_ends (λ vs g ending. absurd (nothing_below_no_terms g))
right_ends (term_then t ts) all = right_cons (right_ends ts all.1) all.0

lists_end : {p : Precedence} (status : Status) (ts : Terms) → AllEnd p ts → ListEnds p status ts
lists_end from_left ts all = left_ends ts ts (same_length_refl ts) all
lists_end from_right ts all = right_ends ts all

-- ---- operations

mutual
  -- what is below a node ends, where this is known of lesser operations and of lesser arguments
  below_node : (p : Precedence) (f : ℕ) (ts : Terms)
      → ((g : ℕ) (us : Terms) → IsOver p f g → AllEnd p us → Ends p (node g us))
      → ((us : Terms) → ListExceeds p (p.status f) ts us → AllEnd p us → Ends p (node f us))
      → AllEnd p ts → (u : Term) → Exceeds p (node f ts) u → Ends p u
  below_node p f ts lesser_operation lesser_arguments all (variable n s) g = variable_ends p n s
  below_node p f ts lesser_operation lesser_arguments all (node h us) (by_argument reached) = reached_ends reached all
  below_node p f ts lesser_operation lesser_arguments all (node h us) (by_operation over greater) =
      lesser_operation h us over (below_node_all p f ts lesser_operation lesser_arguments all us greater)
  below_node p f ts lesser_operation lesser_arguments all (node h us) (by_comparison greater lesser) =
      lesser_arguments us lesser (below_node_all p f ts lesser_operation lesser_arguments all us greater)

  below_node_all : (p : Precedence) (f : ℕ) (ts : Terms)
      → ((g : ℕ) (us : Terms) → IsOver p f g → AllEnd p us → Ends p (node g us))
      → ((us : Terms) → ListExceeds p (p.status f) ts us → AllEnd p us → Ends p (node f us))
      → AllEnd p ts → (us : Terms) → ExceedsAll p (node f ts) us → AllEnd p us
  below_node_all p f ts lesser_operation lesser_arguments all no_terms g = tt
  below_node_all p f ts lesser_operation lesser_arguments all (term_then u us) (than_first first rest) =
      (below_node p f ts lesser_operation lesser_arguments all u first, below_node_all p f ts lesser_operation lesser_arguments all us rest)

-- an operation on ending arguments ends: by its rank, then by the arguments
ranked_ends : {p : Precedence} (n f : ℕ) → p.rank f < n → {ts : Terms} → ListEnds p (p.status f) ts → AllEnd p ts
    → Ends p (node f ts)
ranked_ends zero f low l all = absurd (omega arith)
ranked_ends {p = p} (suc n) f low {ts = ts} (list_ends l) all =
    ends (below_node p f ts
    (λ g us over ending. ranked_ends n g (omega arith) (lists_end (p.status g) us ending) ending)
    (λ us lesser ending. ranked_ends (suc n) f low (l us lesser ending) ending)
    all)

mutual
  -- every term is accessible
  pub term_ends : (p : Precedence) (t : Term) → Ends p t
  term_ends p (variable n s) = variable_ends p n s
  term_ends p (node f ts) =
      let all = terms_end p ts in
      ranked_ends (suc (p.rank f)) f (omega arith) (lists_end (p.status f) ts all) all

  pub terms_end : (p : Precedence) (ts : Terms) → AllEnd p ts
  terms_end p no_terms = tt
  terms_end p (term_then t ts) = (term_ends p t, terms_end p ts)
