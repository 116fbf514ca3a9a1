-- The path order is irreflexive and transitive. Transitivity is by induction on the first term, then on the second
-- one, then on the third one.
use Rattle.std.proofs.Common.{ℕ, refl, arith}
use Rattle.lotos_base.specs.Term.{Term, variable, node, Terms, no_terms, term_then}
use Rattle.rewriting_theory.specs.Precedence.{Status, Precedence}
use Rattle.rewriting_theory.specs.OrderFamily.{Exceeds, by_argument, by_operation, by_comparison, by_occurrence, SomeReaches, is_first, first_exceeds, among_rest, ExceedsAll, than_none, than_first, ListExceeds, left_here, left_later, right_here, right_later}
use Rattle.rewriting_theory.proofs.Accessible.{Ends, ends, term_ends, nothing_below_variable, same_length_trans, list_exceeds_length}
use Rattle.rewriting_theory.proofs.Closure.{exceeds_occurs}

irreflexive : {p : Precedence} {t : Term} → Ends p t → Exceeds p t t → ⊥
irreflexive {t = t} (ends h) g = irreflexive (h t g) g

pub exceeds_irreflexive : (p : Precedence) (t : Term) → Exceeds p t t → ⊥
exceeds_irreflexive p t g = irreflexive (term_ends p t) g

-- what a term exceeds, whatever stands between, it exceeds
abbrev From : Precedence → Term → Type 0
From p t = (u v : Term) → Exceeds p t u → Exceeds p u v → Exceeds p t v

abbrev AllFrom : Precedence → Terms → Type 0
AllFrom p no_terms = Unit {0}
AllFrom p (term_then t ts) = From p t × AllFrom p ts

-- so it is with this term between
abbrev Through : Precedence → Term → Term → Type 0
Through p t u = (v : Term) → Exceeds p t u → Exceeds p u v → Exceeds p t v

abbrev AllThrough : Precedence → Term → Terms → Type 0
AllThrough p t no_terms = Unit {0}
AllThrough p t (term_then u us) = Through p t u × AllThrough p t us

reaches_further : {p : Precedence} {ts : Terms} {u : Term} (v : Term) → AllFrom p ts → SomeReaches p ts u → Exceeds p u v
    → SomeReaches p ts v
reaches_further v from is_first k = first_exceeds k
reaches_further v from (first_exceeds {u = u} g) k = first_exceeds (from.0 u v g k)
reaches_further v from (among_rest r) k = among_rest (reaches_further v from.1 r k)

below_some : {p : Precedence} {t : Term} {us : Terms} {v : Term} → AllThrough p t us → ExceedsAll p t us
    → SomeReaches p us v → Exceeds p t v
below_some through than_none r = elim r [ ]
below_some through (than_first g all) is_first = g
below_some {v = v} through (than_first g all) (first_exceeds k) = through.0 v g k
below_some through (than_first g all) (among_rest r) = below_some through.1 all r

list_trans : {p : Precedence} {status : Status} {ts us vs : Terms} → AllFrom p ts → ListExceeds p status ts us
    → ListExceeds p status us vs → ListExceeds p status ts vs
list_trans from (left_here {u = u} {ts = ts} {us = us} g same) (left_here {u = v} {us = vs} k more) =
    left_here (from.0 u v g k) (same_length_trans ts us vs same more)
list_trans from (left_here {ts = ts} {us = us} g same) (left_later {us = vs} l) =
    left_here g (same_length_trans ts us vs same (list_exceeds_length l))
list_trans from (left_later {ts = ts} {us = us} l) (left_here {us = vs} k more) =
    left_here k (same_length_trans ts us vs (list_exceeds_length l) more)
list_trans from (left_later l) (left_later m) = left_later (list_trans from.1 l m)
list_trans from (right_here {u = u} g) (right_here {u = v} k) = right_here (from.0 u v g k)
list_trans from (right_here g) (right_later m) = right_later m
list_trans from (right_later l) (right_here k) = right_later l
list_trans from (right_later l) (right_later m) = right_later (list_trans from.1 l m)

mutual
  below_lesser : (p : Precedence) (f : ℕ) (ts : Terms) → AllFrom p ts → (g : ℕ) (us : Terms)
      → AllThrough p (node f ts) us → Exceeds p (node f ts) (node g us)
      → (v : Term) → Exceeds p (node g us) v → Exceeds p (node f ts) v
  below_lesser p f ts from g us through above (variable m r) k =
      by_occurrence (exceeds_occurs m r above (exceeds_occurs m r k (refl, refl)))
  below_lesser p f ts from g us through (by_argument reached) (node h vs) k = by_argument (reaches_further (node h vs) from reached k)
  below_lesser p f ts from g us through (by_operation over all) (node h vs) (by_argument reached) = below_some through all reached
  below_lesser p f ts from g us through (by_operation over all) (node h vs) (by_operation under less) =
      by_operation (omega arith) (below_lessers p f ts from g us through (by_operation over all) vs less)
  below_lesser p f ts from g us through (by_operation over all) (node h vs) (by_comparison less l) =
      by_operation over (below_lessers p f ts from g us through (by_operation over all) vs less)
  below_lesser p f ts from g us through (by_comparison all l) (node h vs) (by_argument reached) = below_some through all reached
  below_lesser p f ts from g us through (by_comparison all l) (node h vs) (by_operation under less) =
      by_operation under (below_lessers p f ts from g us through (by_comparison all l) vs less)
  below_lesser p f ts from g us through (by_comparison all l) (node h vs) (by_comparison less m) =
      by_comparison (below_lessers p f ts from g us through (by_comparison all l) vs less) (list_trans from l m)

  below_lessers : (p : Precedence) (f : ℕ) (ts : Terms) → AllFrom p ts → (g : ℕ) (us : Terms)
      → AllThrough p (node f ts) us → Exceeds p (node f ts) (node g us)
      → (vs : Terms) → ExceedsAll p (node g us) vs → ExceedsAll p (node f ts) vs
  below_lessers p f ts from g us through above no_terms less = than_none
  below_lessers p f ts from g us through above (term_then v vs) (than_first k less) =
      than_first (below_lesser p f ts from g us through above v k) (below_lessers p f ts from g us through above vs less)

mutual
  through_term : (p : Precedence) (f : ℕ) (ts : Terms) → AllFrom p ts → (u : Term) → Through p (node f ts) u
  through_term p f ts from (variable n s) v above k = absurd (nothing_below_variable k)
  through_term p f ts from (node g us) v above k = below_lesser p f ts from g us (through_terms p f ts from us) above v k

  through_terms : (p : Precedence) (f : ℕ) (ts : Terms) → AllFrom p ts → (us : Terms) → AllThrough p (node f ts) us
  through_terms p f ts from no_terms = tt
  through_terms p f ts from (term_then u us) = (through_term p f ts from u, through_terms p f ts from us)

mutual
  from_term : (p : Precedence) (t : Term) → From p t
  from_term p (variable n s) u v g k = absurd (nothing_below_variable g)
  from_term p (node f ts) u v g k = through_term p f ts (from_terms p ts) u v g k

  from_terms : (p : Precedence) (ts : Terms) → AllFrom p ts
  from_terms p no_terms = tt
  from_terms p (term_then t ts) = (from_term p t, from_terms p ts)

pub exceeds_transitive : (p : Precedence) (t u v : Term) → Exceeds p t u → Exceeds p u v → Exceeds p t v
exceeds_transitive = from_term
