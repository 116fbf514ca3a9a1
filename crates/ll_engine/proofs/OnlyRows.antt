-- The row that the table has for a part and a token is the only one that the token may predict.
use Rattle.std.proofs.Common.{◌≡◌, ◌∙◌, ℕ, zero, suc, ◌<◌, ◌≤◌, Bool, true, false, List, [], ◌∷◌, refl, ap, sym, subst, drop, arith}
use Rattle.std.specs.Prelude.{◌≢◌, ◌+◌, ◌*◌, ◌==◌, if◌then◌else◌, IfSome, IfNone, Option, Some, None, slice_get, slice_index}
use Rattle.std.proofs.Common.{Vec, Global, Bor}
use Rattle.std.proofs.lemmas.Bool.{eqb-true, eq-eqb, false≢true}
use Rattle.std.proofs.lemmas.Option.{none-some}
use Rattle.lotos_base.proofs.Members.{at_map}
use Rattle.ll_engine.specs.declared.symbol.Row.{Row}
use Rattle.ll_engine.specs.declared.table.TheConstants.{NO_ROW}
use Rattle.ll_engine.specs.declared.grammar.Rows.{Rows}
use Rattle.ll_engine.specs.declared.grammar.Rows.TheVariants.{Checked, Written}
use Rattle.ll_engine.specs.declared.written.WrittenRow.{WrittenRow}
use Rattle.ll_engine.specs.declared.written.WrittenTable.{WrittenTable}
use Rattle.ll_engine.specs.Derivation.{Production}
use Rattle.ll_engine.specs.Language.{ContextFree}
use Rattle.ll_engine.specs.Prediction.{IsPredictedBy}
use Rattle.ll_engine.specs.Checked.{IsChecked}
use Rattle.ll_engine.specs.Grammar.{viewed, IsTableOf}
use Rattle.ll_engine.specs.Table.{width_of, row_of_entry, entry_at}
use Rattle.ll_engine.specs.Walk.{IsOnlyRow}
use Rattle.ll_engine.specs.WrittenTable.{written_production, written_productions, row_among, first_row, row_at, is_named, IsTableWritten}
use Rattle.ll_engine.proofs.Walks.{one_row}

-- what is known where the rows were checked, and where the table stands written
pub checked_at : (rows : Rows) (parts tokens start : ℕ) (own : Vec Row Global) (entries : Vec ℕ Global) (g : ContextFree)
    → IsTableOf rows (viewed rows parts tokens start) →
    rows ≡ Checked own entries → viewed rows parts tokens start ≡ g → IsChecked g entries.items
checked_at rows parts tokens start own entries g known is view =
    subst (λ (other : ContextFree). IsChecked other entries.items) (sym (ap (λ (r : Rows). viewed r parts tokens start) is) ∙ view)
    (subst (λ (r : Rows). IsTableOf r (viewed r parts tokens start)) is known)

pub written_at : (rows : Rows) (parts tokens start : ℕ) (table : Bor WrittenTable) (g : ContextFree)
    → IsTableOf rows (viewed rows parts tokens start) →
    rows ≡ Written table → viewed rows parts tokens start ≡ g → IsTableWritten g table.now × (g.rows ≡ written_productions table.now)
written_at rows parts tokens start table g known is view =
    let same = sym (ap (λ (r : Rows). viewed r parts tokens start) is) ∙ view in (
      subst (λ (other : ContextFree). IsTableWritten other table.now) same
          (subst (λ (r : Rows). IsTableOf r (viewed r parts tokens start)) is known),
      sym (ap (λ (other : ContextFree). other.rows) same),
    )

-- entries that were found
row_entry : {G : Type 0} (entry : ℕ) → (entry ≡ NO_ROW → row_of_entry entry ≡ None → G)
    → (entry ≢ NO_ROW → row_of_entry entry ≡ Some entry → G) → G
row_entry {G} entry none some = by_test (entry == NO_ROW) refl
  where
    by_test : (test : Bool) → (entry == NO_ROW) ≡ test → G
    by_test true is = none (eqb-true entry NO_ROW is) (ap (λ (b : Bool). if b then None else Some entry) is)
    by_test false is = some (λ same. false≢true (sym is ∙ eq-eqb entry NO_ROW same)) (ap (λ (b : Bool). if b then None else Some entry) is)

pub entry_none : (g : ContextFree) (entries : List ℕ) (part token : ℕ) → IsChecked g entries → part < g.parts → token ≤ g.tokens →
    IfNone (entry_at entries g.tokens part token) ((r : ℕ) (row : Production) → slice_get g.rows r ≡ Some row → row.left ≡ part
    → ¬ IsPredictedBy g row token)
entry_none g entries part token checked below within =
    let entry = slice_index entries (part * width_of g.tokens + token) in
    let P = (r : ℕ) (row : Production) → slice_get g.rows r ≡ Some row → row.left ≡ part → ¬ IsPredictedBy g row token in
    row_entry {G = IfNone (row_of_entry entry) P} entry
    (λ none is. subst (λ (found : Option ℕ). IfNone found P) (sym is) ((checked.entries part token below within).none none))
    (λ some is. subst (λ (found : Option ℕ). IfNone found P) (sym is) tt)

pub entry_some : (g : ContextFree) (entries : List ℕ) (part token : ℕ) → IsChecked g entries → part < g.parts → token ≤ g.tokens →
    IfSome (entry_at entries g.tokens part token) (IsOnlyRow g part token)
entry_some g entries part token checked below within =
    let entry = slice_index entries (part * width_of g.tokens + token) in
    row_entry {G = IfSome (row_of_entry entry) (IsOnlyRow g part token)} entry
    (λ none is. subst (λ (found : Option ℕ). IfSome found (IsOnlyRow g part token)) (sym is) tt)
    (λ some is.
    let it = (checked.entries part token below within).some some in
    subst (λ (found : Option ℕ). IfSome found (IsOnlyRow g part token)) (sym is)
    (record {
      row = it.0;
      is_row = it.1;
      left_is = it.2;
      only = λ number other is_other left predicted. one_row g checked.predictive part token number entry other it.0 below within is_other
          it.1 left it.2 predicted it.3;
    }))

-- rows of a written table
record IsAmong (rows : List WrittenRow) (first part r : ℕ) : Type 0 where
  place : ℕ
  row : WrittenRow
  is_row : slice_get rows place ≡ Some row
  left_is : row.left ≡ part
  number_is : r ≡ first + place

among : (rows : List WrittenRow) (first part token r : ℕ) → row_among rows first part token ≡ Some r → IsAmong rows first part r
among [] first part token r is = absurd (cc)
among (row ∷ rows) first part token r is = by_part (row.left == part) refl (among rows (first + 1) part token r)
  where
    by_token : (test : Bool) → is_named row token ≡ test → (row.left == part) ≡ true →
        (row_among rows (first + 1) part token ≡ Some r → IsAmong rows (first + 1) part r) → IsAmong (row ∷ rows) first part r
    by_token true has_it same later =
        let here : Some first ≡ Some r = sym (rw (same, has_it) refl) ∙ is in
        record {
          place = 0;
          row = row;
          is_row = refl;
          left_is = eqb-true row.left part same;
          number_is = let e : first ≡ r = cc in omega (arith, e);
        }
    by_token false has_it same later =
        let it = later (sym (rw (same, has_it) refl) ∙ is) in
        record {
          place = suc it.place;
          row = it.row;
          is_row = it.is_row;
          left_is = it.left_is;
          number_is = let e = it.number_is in omega (arith, e);
        }

    by_part : (test : Bool) → (row.left == part) ≡ test → (row_among rows (first + 1) part token ≡ Some r → IsAmong rows (first + 1) part r)
        →
        IsAmong (row ∷ rows) first part r
    by_part true same later = by_token (is_named row token) refl same later
    by_part false other later = absurd (none-some r (sym (rw other refl) ∙ is))

slice_get-behind : {A : Type 0} (n : ℕ) (list : List A) (i : ℕ) (x : A) → slice_get (drop n list) i ≡ Some x
    → slice_get list (n + i) ≡ Some x
slice_get-behind zero list i x is = ap (slice_get list) (let e : 0 + i ≡ i = omega arith in e) ∙ is
slice_get-behind (suc n) [] i x is = absurd (cc)
slice_get-behind (suc n) (y ∷ list) i x is = ap (slice_get (y ∷ list)) (let e : suc n + i ≡ suc (n + i) = omega arith in e)
    ∙ slice_get-behind n list i x is

pub row_some : (g : ContextFree) (table : WrittenTable) (part token : ℕ) → IsTableWritten g table → g.rows ≡ written_productions table
    → token ≤ g.tokens →
    IfSome (row_at table part token) (IsOnlyRow g part token)
row_some g table part token written rows within = by_found (row_at table part token) refl
  where
    by_found : (found : Option ℕ) → row_at table part token ≡ found → IfSome found (IsOnlyRow g part token)
    by_found None is = tt
    by_found (Some r) is =
        let it = among (drop (first_row table part) table.rows.now) (first_row table part) part token r is in
        let at : slice_get table.rows.now r ≡ Some it.row =
        ap (slice_get table.rows.now) it.number_is ∙ slice_get-behind (first_row table part) table.rows.now it.place it.row it.is_row in
        record {
          row = written_production it.row;
          is_row = ap (λ (list : List Production). slice_get list r) rows ∙ at_map written_production table.rows.now r it.row at;
          left_is = it.left_is;
          only = λ number other is_other left predicted.
              let found = written.named_rows token number other within is_other predicted in
              let same : Some r ≡ Some number = sym is ∙ ap (λ (p : ℕ). row_at table p token) (sym left) ∙ found in
              let e : r ≡ number = cc in
              sym e;
        }
