-- The test of the path order answers what it is named for.
use Rattle.std.proofs.Common.{◌≡◌, ℕ, Bool, nat_eq, nat_lt, refl, subst, inl, inr, ap}
use Rattle.std.specs.Prelude.{◌&&◌, ◌||◌, ◌⊎◌}
use Rattle.std.specs.Bool.{Decides}
use Rattle.std.proofs.lemmas.Bool.Decides.{Decides-eqb, Decides-ltb, Decides-and, Decides-or, Decides-like}
use Rattle.lotos_base.specs.Term.{Term, variable, node, Terms, no_terms, term_then}
use Rattle.lotos_base.specs.Sorting.{OccursAmong}
use Rattle.lotos_base.specs.Tests.{term_eq, terms_eq, occurs_among}
use Rattle.lotos_base.proofs.TestLemmas.{Decides-term_eq, Decides-terms_eq, Decides-occurs_among}
use Rattle.rewriting_theory.specs.Precedence.{Status, from_left, from_right, Precedence, IsOver}
use Rattle.rewriting_theory.specs.OrderFamily.{SameLength, Exceeds, by_occurrence, by_argument, by_operation, by_comparison, SomeReaches, is_first, first_exceeds, among_rest, ExceedsAll, than_none, than_first, ListExceeds, left_here, left_later, right_here, right_later}
use Rattle.rewriting_theory.specs.OrderTest.{same_length, node_exceeds, node_exceeds_all, is_greater, some_reaches, list_exceeds, exceeds_all}
use Rattle.rewriting_theory.proofs.Accessible.{nothing_below_variable, nothing_below_no_terms}
use Rattle.rewriting_theory.proofs.Closure.{reaches_occurs}

Decides-same_length : (ts us : Terms) → Decides (same_length ts us) (SameLength ts us)
Decides-same_length no_terms no_terms = ((λ h. tt), (λ h. refl))
Decides-same_length no_terms (term_then u us) = ((λ h. cc), (λ h. absurd h))
Decides-same_length (term_then t ts) no_terms = ((λ h. cc), (λ h. absurd h))
Decides-same_length (term_then t ts) (term_then u us) = Decides-same_length ts us

-- ---- what each comparison comes to

to_occurrence : {p : Precedence} {n s f : ℕ} {ts : Terms} → Exceeds p (node f ts) (variable n s) → OccursAmong n s ts
to_occurrence (by_occurrence o) = o
to_occurrence {n = n} {s = s} (by_argument r) = reaches_occurs n s r (refl, refl)

-- one of three cases
abbrev NodeCases : Precedence → ℕ → Terms → ℕ → Terms → Type 0
NodeCases p f ts g us =
    SomeReaches p ts (node g us)
    ⊎ (ExceedsAll p (node f ts) us × (IsOver p f g ⊎ ((f ≡ g) × ListExceeds p (p.status f) ts us)))

from_cases : (p : Precedence) (f : ℕ) (ts : Terms) (g : ℕ) (us : Terms) → NodeCases p f ts g us
    → Exceeds p (node f ts) (node g us)
from_cases p f ts g us (inl r) = by_argument r
from_cases p f ts g us (inr (all, inl over)) = by_operation over all
from_cases p f ts g us (inr (all, inr (same, l))) =
    subst (λ (h : ℕ). Exceeds p (node f ts) (node h us)) same (by_comparison all l)

to_cases : {p : Precedence} {f : ℕ} {ts : Terms} {g : ℕ} {us : Terms} → Exceeds p (node f ts) (node g us)
    → NodeCases p f ts g us
to_cases (by_argument r) = inl r
to_cases (by_operation over all) = inr (all, inl over)
to_cases (by_comparison all l) = inr (all, inr (refl, l))

from_both : {p : Precedence} {t u : Term} {us : Terms} → Exceeds p t u × ExceedsAll p t us → ExceedsAll p t (term_then u us)
from_both h = than_first h.0 h.1

to_both : {p : Precedence} {t u : Term} {us : Terms} → ExceedsAll p t (term_then u us) → Exceeds p t u × ExceedsAll p t us
to_both (than_first g all) = (g, all)

abbrev ReachCases : Precedence → Term → Terms → Term → Type 0
ReachCases p t ts u = (t ≡ u) ⊎ (Exceeds p t u ⊎ SomeReaches p ts u)

from_reach : {p : Precedence} {t : Term} {ts : Terms} {u : Term} → ReachCases p t ts u → SomeReaches p (term_then t ts) u
from_reach {p = p} {t = t} {ts = ts} (inl same) = subst (λ (v : Term). SomeReaches p (term_then t ts) v) same is_first
from_reach (inr (inl g)) = first_exceeds g
from_reach (inr (inr r)) = among_rest r

to_reach : {p : Precedence} {t : Term} {ts : Terms} {u : Term} → SomeReaches p (term_then t ts) u → ReachCases p t ts u
to_reach is_first = inl refl
to_reach (first_exceeds g) = inr (inl g)
to_reach (among_rest r) = inr (inr r)

abbrev LeftCases : Precedence → Term → Terms → Term → Terms → Type 0
LeftCases p t ts u us = (Exceeds p t u × SameLength ts us) ⊎ ((t ≡ u) × ListExceeds p from_left ts us)

from_left_cases : (p : Precedence) (t : Term) (ts : Terms) (u : Term) (us : Terms) → LeftCases p t ts u us
    → ListExceeds p from_left (term_then t ts) (term_then u us)
from_left_cases p t ts u us (inl (g, same)) = left_here g same
from_left_cases p t ts u us (inr (same, l)) =
    subst (λ (v : Term). ListExceeds p from_left (term_then t ts) (term_then v us)) same (left_later l)

to_left_cases : {p : Precedence} {t : Term} {ts : Terms} {u : Term} {us : Terms}
    → ListExceeds p from_left (term_then t ts) (term_then u us) → LeftCases p t ts u us
to_left_cases (left_here g same) = inl (g, same)
to_left_cases (left_later l) = inr (refl, l)

abbrev RightCases : Precedence → Term → Terms → Term → Terms → Type 0
RightCases p t ts u us = (Exceeds p t u × (ts ≡ us)) ⊎ ListExceeds p from_right ts us

from_right_cases : (p : Precedence) (t : Term) (ts : Terms) (u : Term) (us : Terms) → RightCases p t ts u us
    → ListExceeds p from_right (term_then t ts) (term_then u us)
from_right_cases p t ts u us (inl (g, same)) =
    subst (λ (vs : Terms). ListExceeds p from_right (term_then t ts) (term_then u vs)) same (right_here g)
from_right_cases p t ts u us (inr l) = right_later l

to_right_cases : {p : Precedence} {t : Term} {ts : Terms} {u : Term} {us : Terms}
    → ListExceeds p from_right (term_then t ts) (term_then u us) → RightCases p t ts u us
to_right_cases (right_here g) = inl (g, refl)
to_right_cases (right_later l) = inr l

nothing_to_no_terms : {p : Precedence} {status : Status} {t : Term} {ts : Terms}
    → ListExceeds p status (term_then t ts) no_terms → ⊥
nothing_to_no_terms {status = from_left} l = elim l [ ]
nothing_to_no_terms {status = from_right} l = elim l [ ]

-- ---- the tests

mutual
  decides_node : (p : Precedence) (f : ℕ) (ts : Terms) (reaches : Term → Bool) (lists : Terms → Bool)
      → ((u : Term) → Decides (reaches u) (SomeReaches p ts u))
      → ((us : Terms) → Decides (lists us) (ListExceeds p (p.status f) ts us))
      → (u : Term) → Decides (node_exceeds p f ts reaches lists u) (Exceeds p (node f ts) u)
  decides_node p f ts reaches lists some list (variable n s) =
      Decides-like (occurs_among n s ts) (λ o. by_occurrence o) to_occurrence (Decides-occurs_among n s ts)
  decides_node p f ts reaches lists some list (node g us) =
      Decides-like (node_exceeds p f ts reaches lists (node g us)) (from_cases p f ts g us) to_cases
      (Decides-or (reaches (node g us)) _ (some (node g us))
      (Decides-and (node_exceeds_all p f ts reaches lists us) _ (decides_node_all p f ts reaches lists some list us)
      (Decides-or (nat_lt (p.rank g) (p.rank f)) _ (Decides-ltb (p.rank g) (p.rank f))
      (Decides-and (nat_eq f g) (lists us) (Decides-eqb f g) (list us)))))

  decides_node_all : (p : Precedence) (f : ℕ) (ts : Terms) (reaches : Term → Bool) (lists : Terms → Bool)
      → ((u : Term) → Decides (reaches u) (SomeReaches p ts u))
      → ((us : Terms) → Decides (lists us) (ListExceeds p (p.status f) ts us))
      → (us : Terms) → Decides (node_exceeds_all p f ts reaches lists us) (ExceedsAll p (node f ts) us)
  decides_node_all p f ts reaches lists some list no_terms = ((λ h. than_none), (λ h. refl))
  decides_node_all p f ts reaches lists some list (term_then u us) =
      Decides-like (node_exceeds_all p f ts reaches lists (term_then u us)) from_both to_both
      (Decides-and (node_exceeds p f ts reaches lists u) (node_exceeds_all p f ts reaches lists us)
      (decides_node p f ts reaches lists some list u) (decides_node_all p f ts reaches lists some list us))

mutual
  pub Decides-is_greater : (p : Precedence) (t u : Term) → Decides (is_greater p t u) (Exceeds p t u)
  Decides-is_greater p (variable n s) u = ((λ h. cc), (λ h. absurd (nothing_below_variable h)))
  Decides-is_greater p (node f ts) u =
      decides_node p f ts (some_reaches p ts) (list_exceeds p (p.status f) ts) (Decides-some_reaches p ts)
      (Decides-list_exceeds p (p.status f) ts) u

  pub Decides-some_reaches : (p : Precedence) (ts : Terms) (u : Term) → Decides (some_reaches p ts u) (SomeReaches p ts u)
  Decides-some_reaches p no_terms u = ((λ h. cc), (λ r. elim r [ ]))
  Decides-some_reaches p (term_then t ts) u =
      Decides-like (some_reaches p (term_then t ts) u) from_reach to_reach
      (Decides-or (term_eq t u) _ (Decides-term_eq t u)
      (Decides-or (is_greater p t u) (some_reaches p ts u) (Decides-is_greater p t u) (Decides-some_reaches p ts u)))

  pub Decides-list_exceeds : (p : Precedence) (status : Status) (ts us : Terms)
      → Decides (list_exceeds p status ts us) (ListExceeds p status ts us)
  Decides-list_exceeds p status no_terms us = ((λ h. cc), (λ l. absurd (nothing_below_no_terms l)))
  Decides-list_exceeds p status (term_then t ts) no_terms = ((λ h. cc), (λ l. absurd (nothing_to_no_terms l)))
  Decides-list_exceeds p from_left (term_then t ts) (term_then u us) =
      Decides-like (list_exceeds p from_left (term_then t ts) (term_then u us)) (from_left_cases p t ts u us) to_left_cases
      (Decides-or (is_greater p t u && same_length ts us) _
      (Decides-and (is_greater p t u) (same_length ts us) (Decides-is_greater p t u) (Decides-same_length ts us))
      (Decides-and (term_eq t u) (list_exceeds p from_left ts us) (Decides-term_eq t u) (Decides-list_exceeds p from_left ts us)))
  Decides-list_exceeds p from_right (term_then t ts) (term_then u us) =
      Decides-like (list_exceeds p from_right (term_then t ts) (term_then u us)) (from_right_cases p t ts u us) to_right_cases
      (Decides-or (is_greater p t u && terms_eq ts us) (list_exceeds p from_right ts us)
      (Decides-and (is_greater p t u) (terms_eq ts us) (Decides-is_greater p t u) (Decides-terms_eq ts us))
      (Decides-list_exceeds p from_right ts us))

-- ---- by parts

all_by_parts : (p : Precedence) (f : ℕ) (ts us : Terms)
    → node_exceeds_all p f ts (some_reaches p ts) (list_exceeds p (p.status f) ts) us ≡ exceeds_all p (node f ts) us
all_by_parts p f ts no_terms = refl
all_by_parts p f ts (term_then u us) = ap (λ (rest : Bool). is_greater p (node f ts) u && rest) (all_by_parts p f ts us)

pub greater_by_parts : (p : Precedence) (f g : ℕ) (ts us : Terms)
    → is_greater p (node f ts) (node g us)
    ≡ (some_reaches p ts (node g us)
    || (exceeds_all p (node f ts) us
    && (nat_lt (p.rank g) (p.rank f) || (nat_eq f g && list_exceeds p (p.status f) ts us))))
greater_by_parts p f g ts us =
    ap (λ (all : Bool). some_reaches p ts (node g us)
    || (all && (nat_lt (p.rank g) (p.rank f) || (nat_eq f g && list_exceeds p (p.status f) ts us)))) (all_by_parts p f ts us)
