-- A grammar with sets that its rows keep to is one that one token ahead decides.
use Rattle.std.proofs.Common.{◌≡◌, ◌≢◌, ◌∙◌, inl, inr, ℕ, zero, suc, ◌<◌, ◌≤◌, Bool, true, false, cond, not, ◌&&◌, ◌||◌, List, [], ◌∷◌, ◌++◌, refl, ap, sym, subst, arith}
use Rattle.std.specs.Prelude.{nat_lt, ◌==◌, Option, Some, None, slice_get}
use Rattle.std.specs.List.{list_all}
use Rattle.std.proofs.lemmas.Bool.{and_parts, and_from, or_cases, or_left, or_right, not-true, both_ways, cases_eq, ltb-true, lt-ltb, eqb-true, eq-eqb}
use Rattle.lotos_base.proofs.Tests.{list_all-at}
use Rattle.ll_engine.specs.declared.symbol.Symbol.{Symbol}
use Rattle.ll_engine.specs.declared.symbol.Symbol.TheVariants.{Token, Part}
use Rattle.ll_engine.specs.Derivation.{Production, Forest, empty, leaf, node, DerivesSymbols, leaves}
use Rattle.ll_engine.specs.Language.{ContextFree}
use Rattle.ll_engine.specs.Prediction.{IsPredictedBy, MayFollow, ends, before, behind, RewritesSymbols, RewritesInSteps, one, more, IsPredictive}
use Rattle.ll_engine.specs.PredictionSets.{Sets, has, within, apart, all_nullable, first_tokens_of, predicting, keeps_nullable, keeps_first, keeps_follow, falls, keeps, is_apart_from, all_apart, has_left, right_of, derives_by, passes_below, ChecksHold, PartSets, sets_of, tree_of, known_after, are_kept, is_predictive_after}

-- membership
pub all_has : (test : ℕ → Bool) (list : List ℕ) (t : ℕ) → list_all test list ≡ true → has list t ≡ true → test t ≡ true
all_has test [] t all is = absurd (cc)
all_has test (n ∷ ns) t all is =
    let parts = and_parts (test n) (list_all test ns) all in
    elim (or_cases (n == t) (has ns t) is) [
      | inl same ↦ ap test (sym (eqb-true n t same)) ∙ parts.0
      | inr rest ↦ all_has test ns t parts.1 rest
    ]

has-left : (a b : List ℕ) (t : ℕ) → has a t ≡ true → has (a ++ b) t ≡ true
has-left [] b t is = absurd (cc)
has-left (n ∷ a) b t is =
    elim (or_cases (n == t) (has a t) is) [
      | inl same ↦ or_left (n == t) (has (a ++ b) t) same
      | inr rest ↦ or_right (n == t) (has (a ++ b) t) (has-left a b t rest)
    ]

has-right : (a b : List ℕ) (t : ℕ) → has b t ≡ true → has (a ++ b) t ≡ true
has-right [] b t is = is
has-right (n ∷ a) b t is = or_right (n == t) (has (a ++ b) t) (has-right a b t is)

apart_sound : (a b : List ℕ) (t : ℕ) → apart a b ≡ true → has a t ≡ true → has b t ≡ true → ⊥
apart_sound a b t are in_a in_b = both_ways (has b t) (not-true (has b t) (all_has (λ n. not (has b n)) a t are in_a)) in_b

implied : (a b : Bool) → (not a || b) ≡ true → a ≡ true → b ≡ true
implied true b h is = h
implied false b h is = absurd (cc)

implies : (a b : Bool) → (a ≡ true → b ≡ true) → (not a || b) ≡ true
implies true b h = h refl
implies false b h = refl

below-at : (test : ℕ → Bool) (n k : ℕ) → passes_below test n ≡ true → k < n → test k ≡ true
below-at test zero k all within = absurd (omega arith)
below-at test (suc n) k all within =
    let parts = and_parts (passes_below test n) (test n) all in
    elim (cases_eq k n) [
      | inl same ↦ ap test same ∙ parts.1
      | inr other ↦ below-at test n k parts.0 (omega (arith, other))
    ]

none_appended : (a b : List ℕ) → a ++ b ≡ [] → (a ≡ []) × (b ≡ [])
none_appended [] b e = (refl, e)
none_appended (x ∷ a) b e = absurd (cc)

-- the derivations that are computed are derivations
row_found : (found : Option Production) (p : ℕ) → has_left found p ≡ true → (row : Production) × (found ≡ Some row) × (row.left ≡ p)
row_found None p h = absurd (cc)
row_found (Some row) p h = (row, refl, eqb-true row.left p h)

derives_from : (rows : List Production) (trees : Forest) (symbols : List Symbol) → derives_by rows trees symbols ≡ true
    → DerivesSymbols rows trees symbols
derives_from rows empty [] h = tt
derives_from rows empty (symbol ∷ symbols) h = absurd (cc)
derives_from rows (leaf t rest) [] h = absurd (cc)
derives_from rows (leaf t rest) (Token u ∷ symbols) h =
    let parts = and_parts (t == u) (derives_by rows rest symbols) h in
    (eqb-true t u parts.0, derives_from rows rest symbols parts.1)
derives_from rows (leaf t rest) (Part p ∷ symbols) h = absurd (cc)
derives_from rows (node r below rest) [] h = absurd (cc)
derives_from rows (node r below rest) (Token u ∷ symbols) h = absurd (cc)
derives_from rows (node r below rest) (Part p ∷ symbols) h =
    let found = slice_get rows r in
    let parts = and_parts (has_left found p && derives_by rows below (right_of found)) (derives_by rows rest symbols) h in
    let here = and_parts (has_left found p) (derives_by rows below (right_of found)) parts.0 in
    let row = row_found found p here.0 in (
      row.0,
      row.1,
      row.2,
      subst (DerivesSymbols rows below) (ap right_of row.1) (derives_from rows below (right_of found) here.1),
      derives_from rows rest symbols parts.1,
    )

record RowKeeps (sets : Sets) (row : Production) : Type 0 where
  when_nullable : all_nullable sets row.right ≡ true → sets.nullable row.left ≡ true
  first_in : (t : ℕ) → has (first_tokens_of sets row.right) t ≡ true → has (sets.first row.left) t ≡ true
  follow_kept : keeps_follow sets row.left row.right ≡ true
  falling : falls sets (sets.rank row.left) row.right ≡ true

row_keeps : (rows : List Production) (sets : Sets) → list_all (keeps sets) rows ≡ true → (r : ℕ) (row : Production)
    → slice_get rows r ≡ Some row → RowKeeps sets row
row_keeps rows sets all r row is =
    let kept = list_all-at (keeps sets) rows r row all is in
    let halves = and_parts (keeps_nullable sets row && keeps_first sets row)
    (keeps_follow sets row.left row.right && falls sets (sets.rank row.left) row.right) kept in
    let sets_kept = and_parts (keeps_nullable sets row) (keeps_first sets row) halves.0 in
    let rest = and_parts (keeps_follow sets row.left row.right) (falls sets (sets.rank row.left) row.right) halves.1 in
    record {
      when_nullable = implied (all_nullable sets row.right) (sets.nullable row.left) sets_kept.0;
      first_in = λ t. all_has (has (sets.first row.left)) (first_tokens_of sets row.right) t sets_kept.1;
      follow_kept = rest.0;
      falling = rest.1;
    }

-- the sets hold what is derived
nullable_sound : (rows : List Production) (sets : Sets) → list_all (keeps sets) rows ≡ true → (trees : Forest) (symbols : List Symbol) →
    DerivesSymbols rows trees symbols → leaves trees ≡ [] → all_nullable sets symbols ≡ true
nullable_sound rows sets all empty [] d e = refl
nullable_sound rows sets all empty (symbol ∷ symbols) d e = absurd d
nullable_sound rows sets all (leaf t rest) symbols d e = absurd (cc)
nullable_sound rows sets all (node r below rest) [] d e = absurd d
nullable_sound rows sets all (node r below rest) (Token u ∷ symbols) d e = absurd d
nullable_sound rows sets all (node r below rest) (Part p ∷ symbols) d e =
    let parts = none_appended (leaves below) (leaves rest) e in
    let inner = nullable_sound rows sets all below d.0.right d.3 parts.0 in
    and_from (sets.nullable p) (all_nullable sets symbols)
    (ap sets.nullable (sym d.2) ∙ (row_keeps rows sets all r d.0 d.1).when_nullable inner)
    (nullable_sound rows sets all rest symbols d.4 parts.1)

cases_list : {G : Type 0} (list : List ℕ) → (list ≡ [] → G) → ((n : ℕ) (ns : List ℕ) → list ≡ n ∷ ns → G) → G
cases_list [] none some = none refl
cases_list (n ∷ ns) none some = some n ns refl

first_sound : (rows : List Production) (sets : Sets) → list_all (keeps sets) rows ≡ true
    → (trees : Forest) (symbols : List Symbol) (t : ℕ) (others : List ℕ) →
    DerivesSymbols rows trees symbols → leaves trees ≡ t ∷ others → has (first_tokens_of sets symbols) t ≡ true
first_sound rows sets all empty symbols t others d e = absurd (cc)
first_sound rows sets all (leaf k rest) [] t others d e = absurd d
first_sound rows sets all (leaf k rest) (Token u ∷ symbols) t others d e =
    let here : k ≡ t = cc in
    or_left (u == t) false (eq-eqb u t (sym d.0 ∙ here))
first_sound rows sets all (leaf k rest) (Part p ∷ symbols) t others d e = absurd d
first_sound rows sets all (node r below rest) [] t others d e = absurd d
first_sound rows sets all (node r below rest) (Token u ∷ symbols) t others d e = absurd d
first_sound rows sets all (node r below rest) (Part p ∷ symbols) t others d e =
    let row = row_keeps rows sets all r d.0 d.1 in
    cases_list (leaves below)
    (λ none.
    let passes : sets.nullable p ≡ true = ap sets.nullable (sym d.2)
    ∙ row.when_nullable (nullable_sound rows sets all below d.0.right d.3 none) in
    let behind = first_sound rows sets all rest symbols t others d.4 (sym (ap (λ (ks : List ℕ). ks ++ leaves rest) none) ∙ e) in
    has-right (sets.first p) (cond (sets.nullable p) (first_tokens_of sets symbols) []) t
    (ap (λ (test : Bool). has (cond test (first_tokens_of sets symbols) []) t) passes ∙ behind))
    (λ n ns some.
    let both : n ∷ (ns ++ leaves rest) ≡ t ∷ others = sym (ap (λ (ks : List ℕ). ks ++ leaves rest) some) ∙ e in
    let here : n ≡ t = cc in
    let inner = first_sound rows sets all below d.0.right t ns d.3 (some ∙ ap (λ (k : ℕ). k ∷ ns) here) in
    has-left (sets.first p) (cond (sets.nullable p) (first_tokens_of sets symbols) []) t
    (ap (λ (left : ℕ). has (sets.first left) t) (sym d.2) ∙ row.first_in t inner))

-- what may follow
follow_at : (sets : Sets) (left p : ℕ) (front back : List Symbol) → keeps_follow sets left (front ++ Part p ∷ back) ≡ true →
    (within (first_tokens_of sets back) (sets.follow p) && (not (all_nullable sets back) || within (sets.follow left) (sets.follow p)))
    ≡ true
follow_at sets left p [] back kept =
    (and_parts (within (first_tokens_of sets back) (sets.follow p)
    && (not (all_nullable sets back) || within (sets.follow left) (sets.follow p)))
    (keeps_follow sets left back) kept).0
follow_at sets left p (Token t ∷ front) back kept = follow_at sets left p front back kept
follow_at sets left p (Part q ∷ front) back kept =
    let symbols = front ++ Part p ∷ back in
    follow_at sets left p front back
    (and_parts (within (first_tokens_of sets symbols) (sets.follow q)
    && (not (all_nullable sets symbols) || within (sets.follow left) (sets.follow q))) (keeps_follow sets left symbols) kept).1

follow_here : (rows : List Production) (sets : Sets) → list_all (keeps sets) rows ≡ true
    → (number : ℕ) (row : Production) (front back : List Symbol) (p : ℕ) →
    slice_get rows number ≡ Some row → row.right ≡ front ++ Part p ∷ back →
    (within (first_tokens_of sets back) (sets.follow p) ≡ true)
    × ((not (all_nullable sets back) || within (sets.follow row.left) (sets.follow p))
    ≡ true)
follow_here rows sets all number row front back p is split =
    and_parts (within (first_tokens_of sets back) (sets.follow p))
    (not (all_nullable sets back) || within (sets.follow row.left) (sets.follow p))
    (follow_at sets row.left p front back (ap (keeps_follow sets row.left) (sym split)
    ∙ (row_keeps rows sets all number row is).follow_kept))

follow_sound : (g : ContextFree) (sets : Sets) → list_all (keeps sets) g.rows ≡ true → has (sets.follow g.start) g.tokens ≡ true →
    {part token : ℕ} → MayFollow g part token → has (sets.follow part) token ≡ true
follow_sound g sets all end ends = end
follow_sound g sets all end (before number row front back part token is split begins) =
    let kept = follow_here g.rows sets all number row front back part is split in
    all_has (has (sets.follow part)) (first_tokens_of sets back) token kept.0
    (first_sound g.rows sets all begins.0 back token begins.1 begins.2 begins.3)
follow_sound g sets all end (behind number row front back part token is split empties follows) =
    let kept = follow_here g.rows sets all number row front back part is split in
    let passes = nullable_sound g.rows sets all empties.0 back empties.1 empties.2 in
    all_has (has (sets.follow part)) (sets.follow row.left) token
    (implied (all_nullable sets back) (within (sets.follow row.left) (sets.follow part)) kept.1 passes)
    (follow_sound g sets all end follows)

pub predicted_sound : (g : ContextFree) (sets : Sets) → list_all (keeps sets) g.rows ≡ true → has (sets.follow g.start) g.tokens ≡ true →
    (row : Production) (token : ℕ) → IsPredictedBy g row token → has (predicting sets row) token ≡ true
predicted_sound g sets all end row token (inl begins) =
    has-left (first_tokens_of sets row.right) (cond (all_nullable sets row.right) (sets.follow row.left) []) token
    (first_sound g.rows sets all begins.0 row.right token begins.1 begins.2 begins.3)
predicted_sound g sets all end row token (inr behind_it) =
    let empties = behind_it.0 in
    let passes = nullable_sound g.rows sets all empties.0 row.right empties.1 empties.2 in
    has-right (first_tokens_of sets row.right) (cond (all_nullable sets row.right) (sets.follow row.left) []) token
    (ap (λ (test : Bool). has (cond test (sets.follow row.left) []) token) passes ∙ follow_sound g sets all end behind_it.1)

-- no conflict
two_apart : (sets : Sets) (row other : Production) (t : ℕ) → is_apart_from sets row other ≡ true → row.left ≡ other.left →
    has (predicting sets row) t ≡ true → has (predicting sets other) t ≡ true → ⊥
two_apart sets row other t are same in_row in_other =
    apart_sound (predicting sets row) (predicting sets other) t
    (implied (row.left == other.left) (apart (predicting sets row) (predicting sets other)) are (eq-eqb row.left other.left same)) in_row
    in_other

rows_apart_sound : (sets : Sets) (rows : List Production) (i j : ℕ) (row other : Production) (t : ℕ) → all_apart sets rows ≡ true →
    slice_get rows i ≡ Some row → slice_get rows j ≡ Some other → i ≢ j → row.left ≡ other.left →
    has (predicting sets row) t ≡ true → has (predicting sets other) t ≡ true → ⊥
rows_apart_sound sets [] i j row other t all is_row is_other ne same in_row in_other = absurd (cc)
rows_apart_sound sets (first ∷ rows) zero zero row other t all is_row is_other ne same in_row in_other = ne refl
rows_apart_sound sets (first ∷ rows) zero (suc j) row other t all is_row is_other ne same in_row in_other =
    let parts = and_parts (list_all (is_apart_from sets first) rows) (all_apart sets rows) all in
    let it : first ≡ row = cc in
    let apart_first = list_all-at (is_apart_from sets first) rows j other parts.0 is_other in
    two_apart sets row other t (ap (λ (r : Production). is_apart_from sets r other) (sym it) ∙ apart_first) same in_row in_other
rows_apart_sound sets (first ∷ rows) (suc i) zero row other t all is_row is_other ne same in_row in_other =
    let parts = and_parts (list_all (is_apart_from sets first) rows) (all_apart sets rows) all in
    let it : first ≡ other = cc in
    let apart_first = list_all-at (is_apart_from sets first) rows i row parts.0 is_row in
    two_apart sets other row t (ap (λ (r : Production). is_apart_from sets r row) (sym it) ∙ apart_first) (sym same) in_other in_row
rows_apart_sound sets (first ∷ rows) (suc i) (suc j) row other t all is_row is_other ne same in_row in_other =
    let parts = and_parts (list_all (is_apart_from sets first) rows) (all_apart sets rows) all in
    rows_apart_sound sets rows i j row other t parts.1 is_row is_other (λ e. ne (ap suc e)) same in_row in_other

-- no left cycle
falls-append : (sets : Sets) (small limit : ℕ) (symbols back : List Symbol) → small ≤ limit → falls sets small symbols ≡ true →
    (all_nullable sets symbols ≡ true → falls sets limit back ≡ true) → falls sets limit (symbols ++ back) ≡ true
falls-append sets small limit [] back le falling behind_it = behind_it refl
falls-append sets small limit (Token t ∷ symbols) back le falling behind_it = refl
falls-append sets small limit (Part p ∷ symbols) back le falling behind_it =
    let parts = and_parts (nat_lt (sets.rank p) small) (not (sets.nullable p) || falls sets small symbols) falling in
    let lower : sets.rank p < small = ltb-true (sets.rank p) small parts.0 in
    and_from (nat_lt (sets.rank p) limit) (not (sets.nullable p) || falls sets limit (symbols ++ back))
    (lt-ltb (sets.rank p) limit (omega arith))
    (implies (sets.nullable p) (falls sets limit (symbols ++ back)) (λ passes.
    falls-append sets small limit symbols back le (implied (sets.nullable p) (falls sets small symbols) parts.1 passes)
    (λ rest. behind_it (and_from (sets.nullable p) (all_nullable sets symbols) passes rest))))

falls-rewritten : (sets : Sets) (limit : ℕ) (row : Production) (front back : List Symbol) → RowKeeps sets row →
    falls sets limit (front ++ Part row.left ∷ back) ≡ true → falls sets limit ((front ++ row.right) ++ back) ≡ true
falls-rewritten sets limit row [] back kept falling =
    let parts = and_parts (nat_lt (sets.rank row.left) limit) (not (sets.nullable row.left) || falls sets limit back) falling in
    let lower : sets.rank row.left < limit = ltb-true (sets.rank row.left) limit parts.0 in
    falls-append sets (sets.rank row.left) limit row.right back (omega arith) kept.falling
    (λ passes. implied (sets.nullable row.left) (falls sets limit back) parts.1 (kept.when_nullable passes))
falls-rewritten sets limit row (Token t ∷ front) back kept falling = refl
falls-rewritten sets limit row (Part p ∷ front) back kept falling =
    let rest = front ++ Part row.left ∷ back in
    let parts = and_parts (nat_lt (sets.rank p) limit) (not (sets.nullable p) || falls sets limit rest) falling in
    and_from (nat_lt (sets.rank p) limit) (not (sets.nullable p) || falls sets limit ((front ++ row.right) ++ back)) parts.0
    (implies (sets.nullable p) (falls sets limit ((front ++ row.right) ++ back)) (λ passes.
    falls-rewritten sets limit row front back kept (implied (sets.nullable p) (falls sets limit rest) parts.1 passes)))

no_part_left : (front back : List Symbol) (part left : ℕ) (x : Symbol) → Part part ∷ [] ≡ (x ∷ front) ++ Part left ∷ back → ⊥
no_part_left [] back part left x e = cc
no_part_left (y ∷ front) back part left x e = cc

first_falls : (rows : List Production) (sets : Sets) → list_all (keeps sets) rows ≡ true
    → (part number : ℕ) (row : Production) (front back new : List Symbol) →
    slice_get rows number ≡ Some row → Part part ∷ [] ≡ front ++ Part row.left ∷ back → new ≡ (front ++ row.right) ++ back
    → falls sets (sets.rank part) new ≡ true
first_falls rows sets all part number row [] back new is old_is new_is =
    let here : part ≡ row.left = cc in
    let nothing : back ≡ [] = cc in
    ap (falls sets (sets.rank part)) new_is
    ∙ falls-append sets (sets.rank row.left) (sets.rank part) row.right back
    (let ranks : sets.rank part ≡ sets.rank row.left = ap sets.rank here in omega arith)
    (row_keeps rows sets all number row is).falling (λ passes. ap (falls sets (sets.rank part)) nothing)
first_falls rows sets all part number row (x ∷ front) back new is old_is new_is = absurd (no_part_left front back part row.left x old_is)

next_falls : (rows : List Production) (sets : Sets) → list_all (keeps sets) rows ≡ true → (limit : ℕ) {old new : List Symbol}
    → RewritesSymbols rows old new →
    falls sets limit old ≡ true → falls sets limit new ≡ true
next_falls rows sets all limit step falling =
    ap (falls sets limit) step.new_is
    ∙ falls-rewritten sets limit step.row step.front step.back (row_keeps rows sets all step.number step.row step.is_row)
    (ap (falls sets limit) (sym step.old_is) ∙ falling)

steps_fall : (rows : List Production) (sets : Sets) → list_all (keeps sets) rows ≡ true → (limit : ℕ) {old new : List Symbol}
    → RewritesInSteps rows old new →
    falls sets limit old ≡ true → falls sets limit new ≡ true
steps_fall rows sets all limit (one step) falling = next_falls rows sets all limit step falling
steps_fall rows sets all limit (more step steps) falling =
    steps_fall rows sets all limit steps (next_falls rows sets all limit step falling)

from_part_falls : (rows : List Production) (sets : Sets) → list_all (keeps sets) rows ≡ true → (part : ℕ) {new : List Symbol}
    → RewritesInSteps rows (Part part ∷ []) new →
    falls sets (sets.rank part) new ≡ true
from_part_falls rows sets all part (one {new = new} step) =
    first_falls rows sets all part step.number step.row step.front step.back new step.is_row step.old_is step.new_is
from_part_falls rows sets all part (more {next = next} step steps) =
    steps_fall rows sets all (sets.rank part) steps (first_falls rows sets all part step.number step.row step.front step.back next
    step.is_row step.old_is step.new_is)

no_cycle : (rows : List Production) (sets : Sets) → list_all (keeps sets) rows ≡ true → (part : ℕ) (back : List Symbol)
    → RewritesInSteps rows (Part part ∷ []) (Part part ∷ back) → ⊥
no_cycle rows sets all part back steps =
    let falling = from_part_falls rows sets all part steps in
    let lower : sets.rank part < sets.rank part = ltb-true (sets.rank part) (sets.rank part)
    (and_parts (nat_lt (sets.rank part) (sets.rank part)) (not (sets.nullable part) || falls sets (sets.rank part) back) falling).0 in
    omega arith

pub predictive : (g : ContextFree) (sets : Sets) (tree : ℕ → Forest) → ChecksHold g sets tree → IsPredictive g
predictive g sets tree kept = record {
  productive = λ part below. (
    tree part,
    derives_from g.rows (tree part) (Part part ∷ [])
        (below-at (λ (p : ℕ). derives_by g.rows (tree p) (Part p ∷ [])) g.parts part kept.derived below),
  );
  not_left_cyclic = λ has_cycle. no_cycle g.rows sets kept.rows_keep has_cycle.0 has_cycle.2.0 has_cycle.2.1;
  no_conflict = λ has_conflict.
      let it = has_conflict.2.1 in
      let token = has_conflict.2.0 in
      rows_apart_sound sets g.rows it.first it.second it.first_row it.second_row token kept.rows_apart it.is_first it.is_second it.apart
      (it.first_left ∙ sym it.second_left)
      (predicted_sound g sets kept.rows_keep kept.end_follows it.first_row token it.first_predicted)
      (predicted_sound g sets kept.rows_keep kept.end_follows it.second_row token it.second_predicted);
}

pub kept_of : (g : ContextFree) (table : List PartSets) → are_kept g table ≡ true → ChecksHold g (sets_of table) (tree_of table)
kept_of g table all =
    let derived = passes_below (λ (part : ℕ). derives_by g.rows (tree_of table part) (Part part ∷ [])) g.parts in
    let halves = and_parts (list_all (keeps (sets_of table)) g.rows && has ((sets_of table).follow g.start) g.tokens)
    (all_apart (sets_of table) g.rows && derived) all in
    let rows = and_parts (list_all (keeps (sets_of table)) g.rows) (has ((sets_of table).follow g.start) g.tokens) halves.0 in
    let rest = and_parts (all_apart (sets_of table) g.rows) derived halves.1 in
    record { rows_keep = rows.0; end_follows = rows.1; rows_apart = rest.0; derived = rest.1 }

pub predictive_after : (n : ℕ) (g : ContextFree) → is_predictive_after n g ≡ true → IsPredictive g
predictive_after n g all = predictive g (sets_of (known_after n g)) (tree_of (known_after n g)) (kept_of g (known_after n g) all)
