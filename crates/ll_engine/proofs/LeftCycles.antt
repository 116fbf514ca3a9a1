-- The closed relation of the parts to the symbols with which their rows begin says which parts are left-cyclic.
use Rattle.std.proofs.Common.{◌≡◌, ℕ, ◌==◌, Bool, true, false, ◌||◌, ◌&&◌, List, [], ◌∷◌, ◌++◌, refl, ap, sym, ◌∙◌, inl, inr, append_assoc}
use Rattle.std.proofs.lemmas.Bool.{false≢true, or_left, or_right, and_parts, and_from, eq-eqb}
use Rattle.std.proofs.lemmas.List.{append-nil}
use Rattle.ll_engine.specs.declared.symbol.Symbol.{Symbol}
use Rattle.ll_engine.specs.declared.symbol.Symbol.TheVariants.{Token, Part}
use Rattle.ll_engine.specs.declared.symbol.Row.{Row}
use Rattle.ll_engine.specs.declared.relation.Relation.{Relation}
use Rattle.ll_engine.specs.Derivation.{Production, Forest, empty, leaf, node, DerivesSymbols, leaves}
use Rattle.ll_engine.specs.Prediction.{RewritesSymbols, RewritesInSteps, one, more, IsLeftCyclic}
use Rattle.ll_engine.specs.View.{productions}
use Rattle.ll_engine.specs.Computed.{part_column, all_marked, begins}
use Rattle.ll_engine.specs.Related.{related, RelationLeads, here, through}
use Rattle.ll_engine.proofs.MarkRounds.{append_nil}
use Rattle.ll_engine.proofs.Nullable.{IsNullable-all_marked, nullable-row}
use Rattle.ll_engine.proofs.Begins.{begins-cases, begins-front, begins-behind}
use Rattle.ll_engine.proofs.FirstSets.{IsFirstOf, IsCorner, first-row, corner-part}

-- one step more at the end of a derivation, one derivation after another, and a derivation in front of more symbols
then_one : {rows : List Production} {a b c : List Symbol} → RewritesInSteps rows a b → RewritesSymbols rows b c → RewritesInSteps rows a c
then_one (one first) step = more first (one step)
then_one (more first rest) step = more first (then_one rest step)

then_all : {rows : List Production} {a b c : List Symbol} → RewritesInSteps rows a b → RewritesInSteps rows b c → RewritesInSteps rows a c
then_all (one first) after = more first after
then_all (more first rest) after = more first (then_all rest after)

Rewrites-before : {rows : List Production} {a b : List Symbol} (z : List Symbol) → RewritesSymbols rows a b
    → RewritesSymbols rows (a ++ z) (b ++ z)
Rewrites-before z step = record {
  front = step.front;
  back = step.back ++ z;
  number = step.number;
  row = step.row;
  is_row = step.is_row;
  old_is = ap (λ (xs : List Symbol). xs ++ z) step.old_is ∙ append_assoc step.front (Part step.row.left ∷ step.back) z;
  new_is = ap (λ (xs : List Symbol). xs ++ z) step.new_is ∙ append_assoc (step.front ++ step.row.right) step.back z;
}

steps_before : {rows : List Production} {a b : List Symbol} (z : List Symbol) → RewritesInSteps rows a b
    → RewritesInSteps rows (a ++ z) (b ++ z)
steps_before z (one step) = one (Rewrites-before z step)
steps_before z (more step rest) = more (Rewrites-before z step) (steps_before z rest)

-- symbols that derive the empty list can be rewritten away
away : (rows : List Production) (old : List Symbol) (f : Forest) (front back : List Symbol) → DerivesSymbols rows f front → leaves f ≡ [] →
    RewritesInSteps rows old (front ++ back) → RewritesInSteps rows old back
away rows old empty [] back d e steps = steps
away rows old empty (x ∷ front) back d e steps = absurd d
away rows old (leaf t rest) front back d e steps = absurd (cc)
away rows old (node r below rest) [] back d e steps = absurd d
away rows old (node r below rest) (Token u ∷ front) back d e steps = absurd d
away rows old (node r below rest) (Part p ∷ front) back d e steps =
    let parts = append_nil (leaves below) (leaves rest) e in
    let step : RewritesSymbols rows (Part p ∷ (front ++ back)) (d.0.right ++ (front ++ back)) = record {
      front = [];
      back = front ++ back;
      number = r;
      row = d.0;
      is_row = d.1;
      old_is = ap (λ (q : ℕ). Part q ∷ (front ++ back)) (sym d.2);
      new_is = refl;
    } in
    away rows old rest front back d.4 parts.1
    (away rows old below d.0.right (front ++ back) d.3 parts.0 (then_one steps step))

all_marked-split : (nullable : ℕ → Bool) (front back : List Symbol) → all_marked nullable false (front ++ back) ≡ true →
    (all_marked nullable false front ≡ true) × (all_marked nullable false back ≡ true)
all_marked-split nullable [] back h = (refl, h)
all_marked-split nullable (Token t ∷ front) back h = absurd (false≢true h)
all_marked-split nullable (Part p ∷ front) back h =
    let parts = and_parts (nullable p) (all_marked nullable false (front ++ back)) h in
    let rest = all_marked-split nullable front back parts.1 in
    (and_from (nullable p) (all_marked nullable false front) parts.0 rest.0, rest.1)

module _ (rows : List Row) (parts tokens : ℕ) (nullable : ℕ → Bool) (none : ℕ → ℕ → Bool) (base first : Relation)
    (made : IsFirstOf rows parts tokens nullable none base first) where
  -- a corner is a derivation
  corner_steps : (part middle : ℕ) → IsCorner (productions rows) nullable part (Part middle) →
      (back : List Symbol) × RewritesInSteps (productions rows) (Part part ∷ []) (Part middle ∷ back)
  corner_steps part middle corner =
      let empties = IsNullable-all_marked (productions rows) nullable made.decides corner.front corner.nullable_front in
      let step : RewritesSymbols (productions rows) (Part part ∷ []) (corner.front ++ Part middle ∷ corner.back) = record {
        front = [];
        back = [];
        number = corner.number;
        row = corner.row;
        is_row = corner.is_row;
        old_is = ap (λ (q : ℕ). Part q ∷ []) (sym corner.left_is);
        new_is = sym (append-nil corner.row.right ∙ corner.split);
      } in (
        corner.back,
        away (productions rows) (Part part ∷ []) empties.0 corner.front (Part middle ∷ corner.back) empties.1 empties.2
            (one step),
      )

  steps-Leads : (part column : ℕ) → RelationLeads base part column → (last : ℕ) → column ≡ part_column base.tokens last →
      (back : List Symbol) × RewritesInSteps (productions rows) (Part part ∷ []) (Part last ∷ back)
  steps-Leads part column (here p c h) last e =
      corner_steps p last (corner-part rows parts tokens nullable none base first made p last (ap (related base p) (sym e) ∙ h))
  steps-Leads part column (through p m c h rest) last e =
      let start = corner_steps p m (corner-part rows parts tokens nullable none base first made p m h) in
      let after = steps-Leads m c rest last e in
      (after.0 ++ start.0, then_all start.1 (steps_before start.0 after.1))

  -- a step back keeps what a list begins with
  begins-old : (column : ℕ) (old new : List Symbol) → RewritesSymbols (productions rows) old new
      → begins nullable (related first) tokens column new ≡ true →
      begins nullable (related first) tokens column old ≡ true
  begins-old column old new step h =
      ap (begins nullable (related first) tokens column) step.old_is
      ∙ elim (begins-cases nullable (related first) tokens column (step.front ++ step.row.right) step.back
      (ap (begins nullable (related first) tokens column) (sym step.new_is) ∙ h)) [
        | inl front ↦ elim (begins-cases nullable (related first) tokens column step.front step.row.right front) [
          | inl before ↦ begins-front nullable (related first) tokens column step.front (Part step.row.left ∷ step.back) before
          | inr at ↦ begins-behind nullable (related first) tokens column step.front (Part step.row.left ∷ step.back) at.0
              (or_left ((part_column tokens step.row.left == column) || related first step.row.left column)
              (nullable step.row.left && begins nullable (related first) tokens column step.back)
              (or_right (part_column tokens step.row.left == column) (related first step.row.left column)
              (first-row rows parts tokens nullable none base first made step.number step.row column step.is_row at.1)))
        ]
        | inr behind ↦
            let empties = all_marked-split nullable step.front step.row.right behind.0 in
            begins-behind nullable (related first) tokens column step.front (Part step.row.left ∷ step.back) empties.0
            (or_right ((part_column tokens step.row.left == column) || related first step.row.left column)
            (nullable step.row.left && begins nullable (related first) tokens column step.back)
            (and_from (nullable step.row.left) (begins nullable (related first) tokens column step.back)
            (nullable-row (productions rows) nullable made.decides step.number step.row step.is_row empties.1) behind.1))
      ]

  begins-start : (column : ℕ) (old new : List Symbol) → RewritesInSteps (productions rows) old new
      → begins nullable (related first) tokens column new ≡ true →
      begins nullable (related first) tokens column old ≡ true
  begins-start column old new (one step) h = begins-old column old new step h
  begins-start column old new (more {next = next} step rest) h = begins-old column old next step (begins-start column next new rest h)

  -- the first step from a part alone is one of its rows
  related-step : (part column : ℕ) (new : List Symbol) → RewritesSymbols (productions rows) (Part part ∷ []) new
      → begins nullable (related first) tokens column new ≡ true →
      related first part column ≡ true
  related-step part column new step h = by_front step.front step.old_is step.new_is
    where
      by_front : (front : List Symbol) → Part part ∷ [] ≡ front ++ Part step.row.left ∷ step.back
          → new ≡ front ++ step.row.right ++ step.back → related first part column ≡ true
      by_front [] old_is new_is =
          let same : part ≡ step.row.left = cc in
          let nothing : step.back ≡ [] = cc in
          let new_right : new ≡ step.row.right = new_is ∙ ap (λ (xs : List Symbol). step.row.right ++ xs) nothing
          ∙ append-nil step.row.right in
          ap (λ (q : ℕ). related first q column) same
          ∙ first-row rows parts tokens nullable none base first made step.number step.row column step.is_row
          (ap (begins nullable (related first) tokens column) (sym new_right) ∙ h)
      by_front (x ∷ front) old_is new_is =
          let e : front ++ Part step.row.left ∷ step.back ≡ [] = cc in
          let n = (append_nil front (Part step.row.left ∷ step.back) e).1 in
          absurd (cc)

  begins-itself : (part : ℕ) (back : List Symbol) → begins nullable (related first) tokens (part_column tokens part) (Part part ∷ back)
      ≡ true
  begins-itself part back =
      or_left ((part_column tokens part == part_column tokens part) || related first part (part_column tokens part))
      (nullable part && begins nullable (related first) tokens (part_column tokens part) back)
      (or_left (part_column tokens part == part_column tokens part) (related first part (part_column tokens part))
      (eq-eqb (part_column tokens part) (part_column tokens part) refl))

  pub IsLeftCyclic-related : (part : ℕ) → related first part (part_column tokens part) ≡ true → IsLeftCyclic (productions rows) part
  IsLeftCyclic-related part h =
      steps-Leads part (part_column tokens part) (made.closed.sound part (part_column tokens part) h) part
      (ap (λ (t : ℕ). part_column t part) (sym made.base_is.same_tokens))

  pub related-IsLeftCyclic : (part : ℕ) → IsLeftCyclic (productions rows) part → related first part (part_column tokens part) ≡ true
  related-IsLeftCyclic part cycle = by_steps (Part part ∷ cycle.0) cycle.1 (begins-itself part cycle.0)
    where
      by_steps : (new : List Symbol) → RewritesInSteps (productions rows) (Part part ∷ []) new
          → begins nullable (related first) tokens (part_column tokens part) new ≡ true →
          related first part (part_column tokens part) ≡ true
      by_steps new (one step) h = related-step part (part_column tokens part) new step h
      by_steps new (more {next = next} step rest) h = related-step part (part_column tokens part) next step
          (begins-start (part_column tokens part) next new rest h)
