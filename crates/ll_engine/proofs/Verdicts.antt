-- What the steps of the check show of the grammar.
use Rattle.std.proofs.Common.{◌≡◌, ℕ, ◌+◌, ◌*◌, ◌<◌, ◌≤◌, Bool, true, false, List, [], ◌∷◌, ap, sym, ◌∙◌, arith}
use Rattle.std.specs.Prelude.{Some, None, slice_index, not}
use Rattle.std.proofs.lemmas.Bool.{both_ways, not-true, not-false}
use Rattle.std.proofs.lemmas.Nat.{mul-add-lt}
use Rattle.ll_engine.specs.declared.symbol.Symbol.TheVariants.{Part}
use Rattle.ll_engine.specs.declared.symbol.Row.{Row}
use Rattle.ll_engine.specs.declared.relation.Relation.{Relation}
use Rattle.ll_engine.specs.declared.fault.TableFault.{TableFault}
use Rattle.ll_engine.specs.declared.fault.TableFault.TheVariants.{Barren, LeftCycle, Conflict, NoMemory}
use Rattle.ll_engine.specs.Derivation.{Forest, DerivesSymbols}
use Rattle.ll_engine.specs.Prediction.{IsLeftCyclic, IsConflict, HasBarren, HasLeftCycle, IsFirstBarren, IsFirstLeftCyclic, IsFirstConflict}
use Rattle.ll_engine.specs.View.{productions, grammar_of, is_well_formed}
use Rattle.ll_engine.specs.Computed.{is_marked, part_column, is_candidate, IsLeastBelow}
use Rattle.ll_engine.specs.Answers.{AreDeriving, HasPartsBelow}
use Rattle.ll_engine.specs.Related.{related, IsFirstSets, IsFollowSets}
use Rattle.ll_engine.specs.Table.{width_of, IsTable, IsFirstSeveral, IsTableFault}
use Rattle.ll_engine.specs.Checked.{IsChecked, IsTableFaultOf}
use Rattle.ll_engine.proofs.Ranges.{RowsInRange-well_formed, left-below, start-below, AllProductive}
use Rattle.ll_engine.proofs.Nullable.{DecidesNullable-marks}
use Rattle.ll_engine.proofs.FirstSets.{IsFirstOf}
use Rattle.ll_engine.proofs.LeftCycles.{IsLeftCyclic-related, related-IsLeftCyclic}
use Rattle.ll_engine.proofs.FollowSets.{IsFollowOf}
use Rattle.ll_engine.proofs.Predicts.{entry_at, IsConflict-AreSeveral, no_conflict-IsEntry, IsPrediction-IsEntry}

-- a cell of the table
pub cell-below : (part width column parts : ℕ) → part < parts → column < width → part * width + column < parts * width
cell-below part width column parts p c = let below = mul-add-lt part width column parts p c in omega arith

module _ (rows : List Row) (parts tokens start : ℕ) (well_formed : is_well_formed (grammar_of rows parts tokens start) ≡ true) where
  pub parts-below : HasPartsBelow rows parts
  parts-below r row is = left-below (RowsInRange-well_formed (grammar_of rows parts tokens start) well_formed) r row is

  module _ (marks : List Bool) (deriving_marks : AreDeriving rows parts true marks) where
    marked-productive : (part : ℕ) → is_marked marks part ≡ true → (tree : Forest) × DerivesSymbols (productions rows) tree (Part part ∷ [])
    marked-productive part h = let d = deriving_marks.sound part h in (d.0, d.1)

    pub IsFirstBarren-least : (part : ℕ) → IsLeastBelow (λ p. not (is_marked marks p)) parts (Some part)
        → IsFirstBarren (grammar_of rows parts tokens start) part
    IsFirstBarren-least part least = (
      least.0,
      record {
        here = λ tree d.
            both_ways (is_marked marks part) (not-true (is_marked marks part) least.1)
            (deriving_marks.complete part least.0 (tree, d, λ impossible. absurd (cc)));
        none_below = λ q lt barren.
            let tree = marked-productive q (not-false (is_marked marks q) (least.2 q lt)) in
            barren tree.0 tree.1;
      },
    )

    pub AllProductive-none : IsLeastBelow (λ p. not (is_marked marks p)) parts None → AllProductive (productions rows) parts
    AllProductive-none none part lt = marked-productive part (not-false (is_marked marks part) (none part lt))

  module _ (productive : AllProductive (productions rows) parts) (nullable : List Bool) (decided : AreDeriving rows parts false nullable)
      (first : Relation) (sets : IsFirstSets rows parts tokens (is_marked nullable) first) where
    pub not_barren : ¬ HasBarren (grammar_of rows parts tokens start)
    not_barren has = let tree = productive has.0 has.1 in has.2 tree.0 tree.1

    made : IsFirstOf rows parts tokens (is_marked nullable) sets.none sets.corners first
    made = record {
      ranges = RowsInRange-well_formed (grammar_of rows parts tokens start) well_formed;
      decides = DecidesNullable-marks rows parts nullable parts-below decided;
      none_is = sets.none_is;
      base_is = sets.corners_are;
      closed = sets.closed;
    }

    pub first-tokens : first.tokens ≡ tokens
    first-tokens = sets.closed.same_tokens ∙ sets.corners_are.same_tokens

    cyclic : (part : ℕ) → IsLeftCyclic (productions rows) part → related first part (part_column first.tokens part) ≡ true
    cyclic part cycle =
        ap (λ (t : ℕ). related first part (part_column t part)) first-tokens
        ∙ related-IsLeftCyclic rows parts tokens (is_marked nullable) sets.none sets.corners first made part cycle

    pub IsFirstLeftCyclic-least : (part : ℕ) → IsLeastBelow (λ p. related first p (part_column first.tokens p)) parts (Some part) →
        IsFirstLeftCyclic (grammar_of rows parts tokens start) part
    IsFirstLeftCyclic-least part least = (
      not_barren,
      least.0,
      record {
        here = IsLeftCyclic-related rows parts tokens (is_marked nullable) sets.none sets.corners first made part
            (ap (λ (t : ℕ). related first part (part_column t part)) (sym first-tokens) ∙ least.1);
        none_below = λ q lt cycle. both_ways (related first q (part_column first.tokens q)) (least.2 q lt) (cyclic q cycle);
      },
    )

    pub not_left_cyclic-none : IsLeastBelow (λ p. related first p (part_column first.tokens p)) parts None
        → ¬ HasLeftCycle (grammar_of rows parts tokens start)
    not_left_cyclic-none none has = both_ways (related first has.0 (part_column first.tokens has.0)) (none has.0 has.1) (cyclic has.0 has.2)

    module _ (not_left_cyclic : ¬ HasLeftCycle (grammar_of rows parts tokens start)) (follow : Relation)
        (follows : IsFollowSets rows parts tokens start (is_marked nullable) first follow) where
      of_follow : IsFollowOf rows parts tokens start (is_marked nullable) first follows.followers follow
      of_follow = record {
        start_below = start-below (grammar_of rows parts tokens start) well_formed;
        base_is = follows.followers_are;
        closed = follows.closed;
      }

      abbrev test : ℕ → ℕ → Row → Bool
      test = is_candidate (is_marked nullable) (related first) (related follow) tokens

      pub IsChecked-table : (table : List ℕ) → IsTable test rows parts tokens table → IsChecked (grammar_of rows parts tokens start) table
      IsChecked-table table is = record {
        well_formed = well_formed;
        predictive = record {
          productive = productive;
          not_left_cyclic = not_left_cyclic;
          no_conflict = λ has.
              let e = entry_at test rows parts tokens table (parts * width_of tokens) has.0 has.2.0 is.entries
              (cell-below has.0 (width_of tokens) has.2.0 parts has.1 (let le = has.2.1.in_range in omega arith)) has.2.1.in_range in
              no_conflict-IsEntry rows parts tokens start (is_marked nullable) sets.none sets.corners first follows.followers follow made
              of_follow productive has.0 has.2.0
              (slice_index table (has.0 * width_of tokens + has.2.0)) e has.2.1;
        };
        one_each = is.one_each;
        entries = λ part token lt le.
            IsPrediction-IsEntry rows parts tokens start (is_marked nullable) sets.none sets.corners first follows.followers follow made
            of_follow productive part token
            (slice_index table (part * width_of tokens + token)) le
            (entry_at test rows parts tokens table (parts * width_of tokens) part token is.entries
            (cell-below part (width_of tokens) token parts lt (omega arith)) le);
      }

      before : (part token q t : ℕ) (several : IsFirstSeveral test rows parts tokens part token)
          → q * width_of tokens + t < part * width_of tokens + token → t ≤ tokens →
          ¬ IsConflict (grammar_of rows parts tokens start) q t
      before part token q t several lt le =
          no_conflict-IsEntry rows parts tokens start (is_marked nullable) sets.none sets.corners first follows.followers follow made
          of_follow productive q t
          (slice_index several.table (q * width_of tokens + t))
          (entry_at test rows parts tokens several.table (part * width_of tokens + token) q t several.entries_before lt le)

      IsFirstConflict-several : (part token : ℕ) → IsFirstSeveral test rows parts tokens part token
          → IsFirstConflict (grammar_of rows parts tokens start) part token
      IsFirstConflict-several part token several =
          let conflict = IsConflict-AreSeveral rows parts tokens start (is_marked nullable) sets.none sets.corners first follows.followers
          follow made of_follow productive part token several.token_in_range several.several in (
            not_barren,
            not_left_cyclic,
            several.part_in_range,
            record {
              here = (token, conflict);
              none_below = λ q lt has.
                  let le = has.1.in_range in
                  let row = cell-below q (width_of tokens) has.0 part lt (omega arith) in
                  before part token q has.0 several (omega arith) le has.1;
            },
            record {
              here = conflict;
              none_below = λ t lt c. before part token part t several (omega arith) c.in_range c;
            },
          )

      pub IsFaultOf-table : (fault : TableFault) → IsTableFault test rows parts tokens fault
          → IsTableFaultOf (grammar_of rows parts tokens start) fault
      IsFaultOf-table (Barren part) is = absurd is
      IsFaultOf-table (LeftCycle part) is = absurd is
      IsFaultOf-table (Conflict part token) is = IsFirstConflict-several part token is
      IsFaultOf-table NoMemory is = tt
