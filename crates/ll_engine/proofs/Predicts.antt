-- The tests of the rows say which rows a token predicts, so the table's entries do.
use Rattle.std.proofs.Common.{◌≡◌, ℕ, ◌+◌, ◌*◌, ◌/◌, ◌<◌, ◌≤◌, ◌==◌, Bool, true, false, ◌&&◌, List, ap, sym, ◌∙◌, subst, arith, inl, inr}
use Rattle.std.specs.Prelude.{Some, slice_get, slice_index}
use Rattle.std.proofs.lemmas.Bool.{or_cases, or_left, or_right, and_parts, and_from, both_ways, eqb-true, eq-eqb, cases_eq}
use Rattle.std.proofs.lemmas.Nat.{div-mul-add, mod-mul-add}
use Rattle.lotos_base.proofs.Members.{from_map, at_map}
use Rattle.ll_engine.specs.declared.symbol.Row.{Row}
use Rattle.ll_engine.specs.declared.table.TheConstants.{NO_ROW}
use Rattle.ll_engine.specs.declared.relation.Relation.{Relation}
use Rattle.ll_engine.specs.Derivation.{Production}
use Rattle.ll_engine.specs.Prediction.{IsPredictedBy, IsConflict}
use Rattle.ll_engine.specs.View.{production_of, productions, grammar_of}
use Rattle.ll_engine.specs.Computed.{all_marked, begins, predicts, is_candidate, AreSeveral, IsTableEntry}
use Rattle.ll_engine.specs.Related.{related}
use Rattle.ll_engine.specs.Table.{width_of, AreEntries}
use Rattle.ll_engine.specs.Checked.{IsPrediction}
use Rattle.ll_engine.proofs.Ranges.{right-InRange, AllProductive}
use Rattle.ll_engine.proofs.Nullable.{IsNullable-all_marked, all_marked-IsNullable}
use Rattle.ll_engine.proofs.FirstSets.{IsFirstOf, begins-Begins, Begins-begins}
use Rattle.ll_engine.proofs.FollowSets.{IsFollowOf, MayFollow-related, related-MayFollow}

-- the entry at a part and a token
pub entry_at : (test : ℕ → ℕ → Row → Bool) (rows : List Row) (parts tokens : ℕ) (table : List ℕ) (n part token : ℕ)
    → AreEntries test rows tokens table n →
    part * width_of tokens + token < n → token ≤ tokens → IsTableEntry (test part token) rows
    (slice_index table (part * width_of tokens + token))
entry_at test rows parts tokens table n part token entries lt le =
    let column : token < width_of tokens = omega arith in
    let p = div-mul-add part (width_of tokens) token column in
    let t = mod-mul-add part (width_of tokens) token column in
    let e = entries (part * width_of tokens + token) lt in
    subst (λ (q : ℕ). IsTableEntry (test q token) rows (slice_index table (part * width_of tokens + token))) p
    (subst (λ (u : ℕ). IsTableEntry (test ((part * width_of tokens + token) / width_of tokens) u) rows
    (slice_index table (part * width_of tokens + token))) t e)

module _ (rows : List Row) (parts tokens start : ℕ) (nullable : ℕ → Bool) (none : ℕ → ℕ → Bool) (corners first base follow : Relation)
    (made : IsFirstOf rows parts tokens nullable none corners first)
    (follows : IsFollowOf rows parts tokens start nullable first base follow)
    (productive : AllProductive (productions rows) parts) where
  -- the test of a row and its meaning
  IsPredictedBy-predicts : (r : ℕ) (row : Row) (token : ℕ) → slice_get rows r ≡ Some row → token ≤ tokens →
      predicts nullable (related first) (related follow) tokens token row ≡ true
      → IsPredictedBy (grammar_of rows parts tokens start) (production_of row) token
  IsPredictedBy-predicts r row token is le h =
      elim (or_cases (begins nullable (related first) tokens token row.right.items)
      (all_marked nullable false row.right.items && related follow row.left token) h) [
        | inl front ↦ inl (Begins-begins rows parts tokens nullable none corners first made productive row.right.items token
            (right-InRange made.ranges r (production_of row) (at_map production_of rows r row is)) le front)
        | inr behind ↦
            let both = and_parts (all_marked nullable false row.right.items) (related follow row.left token) behind in
            inr (
              IsNullable-all_marked (productions rows) nullable made.decides row.right.items both.0,
              MayFollow-related rows parts tokens start nullable none corners first base follow made follows productive row.left token le
                  both.1,
            )
      ]

  predicts-IsPredictedBy : (row : Row) (token : ℕ) → IsPredictedBy (grammar_of rows parts tokens start) (production_of row) token →
      predicts nullable (related first) (related follow) tokens token row ≡ true
  predicts-IsPredictedBy row token (inl b) =
      or_left (begins nullable (related first) tokens token row.right.items)
      (all_marked nullable false row.right.items && related follow row.left token)
      (begins-Begins rows parts tokens nullable none corners first made row.right.items token b)
  predicts-IsPredictedBy row token (inr e) =
      or_right (begins nullable (related first) tokens token row.right.items)
      (all_marked nullable false row.right.items && related follow row.left token)
      (and_from (all_marked nullable false row.right.items) (related follow row.left token)
      (all_marked-IsNullable (productions rows) nullable made.decides row.right.items e.0)
      (related-MayFollow rows parts tokens start nullable none corners first base follow made follows productive row.left token e.1))

  abbrev test : ℕ → ℕ → Row → Bool
  test part token = is_candidate nullable (related first) (related follow) tokens part token

  passes : (part token : ℕ) (r : ℕ) (row : Production) → slice_get (productions rows) r ≡ Some row → row.left ≡ part →
      IsPredictedBy (grammar_of rows parts tokens start) row token → (x : Row) × (slice_get rows r ≡ Some x) × (test part token x ≡ true)
  passes part token r row is left p =
      let at = from_map production_of rows r row is in
      let e : at.0.left ≡ part = ap (λ (x : Production). x.left) at.2 ∙ left in (
        at.0,
        at.1,
        and_from (at.0.left == part) (predicts nullable (related first) (related follow) tokens token at.0) (eq-eqb at.0.left part e)
            (predicts-IsPredictedBy at.0 token (subst (λ (x : Production). IsPredictedBy (grammar_of rows parts tokens start) x token)
            (sym at.2) p)),
      )

  candidate : (part token : ℕ) (r : ℕ) (row : Row) → slice_get rows r ≡ Some row → token ≤ tokens → test part token row ≡ true →
      (row.left ≡ part) × IsPredictedBy (grammar_of rows parts tokens start) (production_of row) token
  candidate part token r row is le h =
      let both = and_parts (row.left == part) (predicts nullable (related first) (related follow) tokens token row) h in
      (eqb-true row.left part both.0, IsPredictedBy-predicts r row token is le both.1)

  pub IsConflict-AreSeveral : (part token : ℕ) → token ≤ tokens → AreSeveral (test part token) rows
      → IsConflict (grammar_of rows parts tokens start) part token
  IsConflict-AreSeveral part token le s =
      let a = candidate part token s.first s.first_row s.is_first le s.first_passes in
      let b = candidate part token s.second s.second_row s.is_second le s.second_passes in
      record {
        in_range = le;
        first = s.first;
        second = s.second;
        first_row = production_of s.first_row;
        second_row = production_of s.second_row;
        apart = s.apart;
        is_first = at_map production_of rows s.first s.first_row s.is_first;
        is_second = at_map production_of rows s.second s.second_row s.is_second;
        first_left = a.0;
        second_left = b.0;
        first_predicted = a.1;
        second_predicted = b.1;
      }

  pub no_conflict-IsEntry : (part token entry : ℕ) → IsTableEntry (test part token) rows entry
      → ¬ IsConflict (grammar_of rows parts tokens start) part token
  no_conflict-IsEntry part token entry is conflict =
      let a = passes part token conflict.first conflict.first_row conflict.is_first conflict.first_left conflict.first_predicted in
      let b = passes part token conflict.second conflict.second_row conflict.is_second conflict.second_left conflict.second_predicted in
      elim (cases_eq entry NO_ROW) [
        | inl e ↦ both_ways (test part token a.0) (is.0 e conflict.first a.0 a.1) a.2
        | inr ne ↦
            let only = is.1 ne in
            conflict.apart (only.no_other conflict.first a.0 a.1 a.2 ∙ sym (only.no_other conflict.second b.0 b.1 b.2))
      ]

  pub IsPrediction-IsEntry : (part token entry : ℕ) → token ≤ tokens → IsTableEntry (test part token) rows entry
      → IsPrediction (grammar_of rows parts tokens start) part token entry
  IsPrediction-IsEntry part token entry le is = record {
    none = λ e r row at left p.
        let x = passes part token r row at left p in
        both_ways (test part token x.0) (is.0 e r x.0 x.1) x.2;
    some = λ ne.
        let only = is.1 ne in
        let c = candidate part token entry only.row only.is_row le only.passes in
        (production_of only.row, at_map production_of rows entry only.row only.is_row, c.0, c.1);
  }
