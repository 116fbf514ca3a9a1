-- The path order passes through substitutions and contexts, and its lesser terms have no other variables.
use Rattle.std.proofs.Common.{◌≡◌, ℕ, zero, suc, List, [], ◌∷◌, sym, ◌∙◌, subst, inl, inr}
use Rattle.std.specs.Prelude.{Some}
use Rattle.std.proofs.lemmas.Option.{same_Some}
use Rattle.lotos_base.specs.Term.{Term, variable, node, Terms, no_terms, term_then}
use Rattle.lotos_base.specs.Sorting.{Occurs, OccursAmong}
use Rattle.lotos_base.specs.Path.{argument_at, with_argument, subterm, put_at}
use Rattle.lotos_base.specs.Substitution.{Substitution, substituted, all_substituted}
use Rattle.lotos_base.proofs.PathLemmas.{subterm_below, put_below}
use Rattle.rewriting_theory.specs.Precedence.{Status, from_left, from_right, Precedence}
use Rattle.rewriting_theory.specs.OrderFamily.{SameLength, Exceeds, by_occurrence, by_argument, by_operation, by_comparison, SomeReaches, is_first, first_exceeds, among_rest, ExceedsAll, than_none, than_first, ListExceeds, left_here, left_later, right_here, right_later}
use Rattle.rewriting_theory.proofs.Accessible.{same_length_refl}

-- ---- substitution

-- some argument of an instance reaches what was put for a variable that occurs
occurring_reached : {p : Precedence} (values : Substitution) (n s : ℕ) (ts : Terms) → OccursAmong n s ts
    → SomeReaches p (all_substituted values ts) (values n s)
occurring_reached values n s no_terms o = absurd o
occurring_reached {p = p} values n s (term_then (variable m r) ts) (inl o) =
    subst (λ (u : Term). SomeReaches p (term_then (values m r) (all_substituted values ts)) u)
    (λ i. values (o.0 i) (o.1 i)) is_first
occurring_reached values n s (term_then (node f us) ts) (inl o) = first_exceeds (by_argument (occurring_reached values n s us o))
occurring_reached values n s (term_then t ts) (inr o) = among_rest (occurring_reached values n s ts o)

same_length_instance : (values : Substitution) (ts us : Terms) → SameLength ts us
    → SameLength (all_substituted values ts) (all_substituted values us)
same_length_instance values no_terms no_terms h = tt
same_length_instance values no_terms (term_then u us) h = absurd h
same_length_instance values (term_then t ts) no_terms h = absurd h
same_length_instance values (term_then t ts) (term_then u us) h = same_length_instance values ts us h

mutual
  pub exceeds_instance : {p : Precedence} (values : Substitution) {t u : Term} → Exceeds p t u
      → Exceeds p (substituted values t) (substituted values u)
  exceeds_instance values (by_occurrence {n = n} {s = s} {ts = ts} o) = by_argument (occurring_reached values n s ts o)
  exceeds_instance values (by_argument r) = by_argument (reaches_instance values r)
  exceeds_instance values (by_operation over all) = by_operation over (all_instance values all)
  exceeds_instance values (by_comparison all l) = by_comparison (all_instance values all) (list_instance values l)

  reaches_instance : {p : Precedence} (values : Substitution) {ts : Terms} {u : Term} → SomeReaches p ts u
      → SomeReaches p (all_substituted values ts) (substituted values u)
  reaches_instance values is_first = is_first
  reaches_instance values (first_exceeds g) = first_exceeds (exceeds_instance values g)
  reaches_instance values (among_rest r) = among_rest (reaches_instance values r)

  all_instance : {p : Precedence} (values : Substitution) {t : Term} {us : Terms} → ExceedsAll p t us
      → ExceedsAll p (substituted values t) (all_substituted values us)
  all_instance values than_none = than_none
  all_instance values (than_first g all) = than_first (exceeds_instance values g) (all_instance values all)

  list_instance : {p : Precedence} (values : Substitution) {status : Status} {ts us : Terms} → ListExceeds p status ts us
      → ListExceeds p status (all_substituted values ts) (all_substituted values us)
  list_instance values (left_here {ts = ts} {us = us} g same) =
      left_here (exceeds_instance values g) (same_length_instance values ts us same)
  list_instance values (left_later l) = left_later (list_instance values l)
  list_instance values (right_here g) = right_here (exceeds_instance values g)
  list_instance values (right_later l) = right_later (list_instance values l)

-- ---- variables

mutual
  -- the variables of the lesser term occur in the greater one
  pub exceeds_occurs : {p : Precedence} {t u : Term} (n s : ℕ) → Exceeds p t u → Occurs n s u → Occurs n s t
  exceeds_occurs n s (by_occurrence {n = m} {s = r} {ts = ts} o) at =
      subst (λ (q : ℕ). OccursAmong n q ts) at.1 (subst (λ (k : ℕ). OccursAmong k r ts) at.0 o)
  exceeds_occurs n s (by_argument r) at = reaches_occurs n s r at
  exceeds_occurs n s (by_operation over all) at = all_occurs n s all at
  exceeds_occurs n s (by_comparison all l) at = all_occurs n s all at

  pub reaches_occurs : {p : Precedence} {ts : Terms} {u : Term} (n s : ℕ) → SomeReaches p ts u → Occurs n s u
      → OccursAmong n s ts
  reaches_occurs n s is_first at = inl at
  reaches_occurs n s (first_exceeds g) at = inl (exceeds_occurs n s g at)
  reaches_occurs n s (among_rest r) at = inr (reaches_occurs n s r at)

  all_occurs : {p : Precedence} {t : Term} {us : Terms} (n s : ℕ) → ExceedsAll p t us → OccursAmong n s us → Occurs n s t
  all_occurs n s than_none at = absurd at
  all_occurs n s (than_first g all) (inl at) = exceeds_occurs n s g at
  all_occurs n s (than_first g all) (inr at) = all_occurs n s all at

-- ---- contexts

-- The lists differ at one place, where the first has the greater term.
pub data OneLess (precedence : Precedence) : Terms → Terms → Type 0 where
  less_here : {t u : Term} {ts : Terms} → Exceeds precedence t u → OneLess precedence (term_then t ts) (term_then u ts)
  less_later : {t : Term} {ts us : Terms} → OneLess precedence ts us
      → OneLess precedence (term_then t ts) (term_then t us)

less_in_order : {p : Precedence} (status : Status) {ts us : Terms} → OneLess p ts us → ListExceeds p status ts us
less_in_order from_left (less_here {ts = ts} g) = left_here g (same_length_refl ts)
less_in_order from_left (less_later l) = left_later (less_in_order from_left l)
less_in_order from_right (less_here g) = right_here g
less_in_order from_right (less_later l) = right_later (less_in_order from_right l)

-- a term is greater than each of its arguments, whose list may be the rest of a longer one
members_less : {p : Precedence} (f : ℕ) (whole ts : Terms)
    → ((v : Term) → SomeReaches p ts v → SomeReaches p whole v) → ExceedsAll p (node f whole) ts
members_less f whole no_terms embed = than_none
members_less f whole (term_then t ts) embed =
    than_first (by_argument (embed t is_first)) (members_less f whole ts (λ v r. embed v (among_rest r)))

less_members : {p : Precedence} (f : ℕ) (whole : Terms) {ts us : Terms} → OneLess p ts us
    → ((v : Term) → SomeReaches p ts v → SomeReaches p whole v) → ExceedsAll p (node f whole) us
less_members f whole (less_here {u = u} {ts = ts} g) embed =
    than_first (by_argument (embed u (first_exceeds g))) (members_less f whole ts (λ v r. embed v (among_rest r)))
less_members f whole (less_later {t = t} l) embed =
    than_first (by_argument (embed t is_first)) (less_members f whole l (λ v r. embed v (among_rest r)))

pub exceeds_under : {p : Precedence} (f : ℕ) {ts us : Terms} → OneLess p ts us → Exceeds p (node f ts) (node f us)
exceeds_under {p = p} f {ts = ts} l = by_comparison (less_members f ts l (λ v r. r)) (less_in_order (p.status f) l)

with_argument_less : {p : Precedence} (k : ℕ) (a b : Term) (ts : Terms) → Exceeds p a b → argument_at k ts ≡ Some a
    → OneLess p ts (with_argument k b ts)
with_argument_less k a b no_terms g e = cc
with_argument_less {p = p} zero a b (term_then t ts) g e =
    less_here (subst (λ (v : Term). Exceeds p v b) (sym (same_Some t a e)) g)
with_argument_less (suc k) a b (term_then t ts) g e = less_later (with_argument_less k a b ts g e)

-- a lesser part makes the whole lesser
pub exceeds_inside : {p : Precedence} (path : List ℕ) (old part whole after : Term) → Exceeds p old part
    → subterm path whole ≡ Some old → put_at path part whole ≡ Some after → Exceeds p whole after
exceeds_inside {p = p} [] old part whole after g e h =
    subst (λ (v : Term). Exceeds p whole v) (same_Some part after h)
    (subst (λ (v : Term). Exceeds p v part) (sym (same_Some whole old e)) g)
exceeds_inside (k ∷ path) old part (variable n s) after g e h = cc
exceeds_inside {p = p} (k ∷ path) old part (node f ts) after g e h =
    let below = subterm_below k path f ts old e in
    let put = put_below k path f part ts after h in
    let same : put.argument ≡ below.argument = same_Some _ _ (sym put.found ∙ below.found) in
    let inside : put_at path part below.argument ≡ Some put.after =
    subst (λ (u : Term). put_at path part u ≡ Some put.after) same put.inside in
    let less = exceeds_inside path old part below.argument put.after g below.inside inside in
    subst (λ (v : Term). Exceeds p (node f ts) v) put.is_whole
    (exceeds_under f (with_argument_less k below.argument put.after ts less below.found))

pub same_reached : {p : Precedence} (k : ℕ) (u : Term) (ts : Terms) → argument_at k ts ≡ Some u → SomeReaches p ts u
same_reached k u no_terms e = cc
same_reached {p = p} zero u (term_then t ts) e = subst (λ (v : Term). SomeReaches p (term_then t ts) v) (same_Some t u e) is_first
same_reached (suc k) u (term_then t ts) e = among_rest (same_reached k u ts e)

pub greater_reached : {p : Precedence} (k : ℕ) (a u : Term) (ts : Terms) → argument_at k ts ≡ Some a → Exceeds p a u
    → SomeReaches p ts u
greater_reached k a u no_terms e g = cc
greater_reached {p = p} zero a u (term_then t ts) e g = first_exceeds (subst (λ (v : Term). Exceeds p v u) (sym (same_Some t a e)) g)
greater_reached (suc k) a u (term_then t ts) e g = among_rest (greater_reached k a u ts e g)

-- a term is greater than each of its other subterms
pub exceeds_subterm : {p : Precedence} (k : ℕ) (path : List ℕ) (t part : Term) → subterm (k ∷ path) t ≡ Some part
    → Exceeds p t part
exceeds_subterm k path (variable n s) part e = cc
exceeds_subterm {p = p} k [] (node f ts) part e =
    let below = subterm_below k [] f ts part e in
    by_argument (same_reached k part ts (below.found ∙ below.inside))
exceeds_subterm k (j ∷ path) (node f ts) part e =
    let below = subterm_below k (j ∷ path) f ts part e in
    by_argument (greater_reached k below.argument part ts below.found (exceeds_subterm j path below.argument part below.inside))
