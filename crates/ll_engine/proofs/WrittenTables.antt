-- A table that passes the test names the right rows.
use Rattle.std.proofs.Common.{◌≡◌, ◌∙◌, ℕ, zero, suc, ◌+◌, ◌<◌, true, ◌&&◌, List, [], ◌∷◌, length, drop, refl, ap, sym, subst, arith}
use Rattle.std.specs.Prelude.{nat_lt, nat_le, Option, Some, None, slice_get}
use Rattle.std.specs.List.{list_all}
use Rattle.std.proofs.lemmas.Bool.{and_parts, ltb-true, leb-true, eqb-true}
use Rattle.std.proofs.lemmas.Option.{slice_get-get_or}
use Rattle.lotos_base.proofs.Tests.{list_all-at}
use Rattle.ll_engine.specs.declared.written.WrittenTable.{WrittenTable}
use Rattle.ll_engine.specs.Derivation.{Production}
use Rattle.ll_engine.specs.Language.{ContextFree}
use Rattle.ll_engine.specs.PredictionSets.{Sets, has, predicting, PartSets, sets_of, tree_of, are_kept, known_after}
use Rattle.ll_engine.specs.View.{is_well_formed}
use Rattle.ll_engine.specs.WrittenTable.{written_grammar, row_among, first_row, row_at, IsTableWritten, is_found_number, names_its_rows, is_kept_and_named, is_sized, is_written_after}
use Rattle.ll_engine.proofs.KeptSets.{all_has, predicted_sound, predictive, kept_of}

number_is : (number : ℕ) (found : Option ℕ) → is_found_number number found ≡ true → found ≡ Some number
number_is number None is = absurd (cc)
number_is number (Some n) is = ap Some (eqb-true n number is)

-- the row with this number is named for each token that its sets say predict it
named_at : (table : WrittenTable) (sets : Sets) (rows : List Production) (first number : ℕ) (row : Production) (token : ℕ) →
    names_its_rows table sets first rows ≡ true → slice_get rows number ≡ Some row → has (predicting sets row) token ≡ true →
    row_at table row.left token ≡ Some (first + number)
named_at table sets [] first number row token names is predicted = absurd (cc)
named_at table sets (other ∷ rows) first zero row token names is predicted =
    let same : other ≡ row = cc in
    let test = λ (r : Production) (t : ℕ). is_found_number first
    (row_among (drop (first_row table r.left) table.rows.now) (first_row table r.left) r.left t) in
    let here = (and_parts (list_all (test other) (predicting sets other)) (names_its_rows table sets (first + 1) rows) names).0 in
    let passes = all_has (test row) (predicting sets row) token
    (subst (λ (r : Production). list_all (test r) (predicting sets r) ≡ true) same here) predicted in
    number_is first (row_at table row.left token) passes ∙ ap Some (omega arith)
named_at table sets (other ∷ rows) first (suc number) row token names is predicted =
    let test = λ (r : Production) (t : ℕ). is_found_number first
    (row_among (drop (first_row table r.left) table.rows.now) (first_row table r.left) r.left t) in
    let rest = (and_parts (list_all (test other) (predicting sets other)) (names_its_rows table sets (first + 1) rows) names).1 in
    named_at table sets rows (first + 1) number row token rest is predicted ∙ ap Some (omega arith)

written_by : (table : WrittenTable) (g : ContextFree) (known : List PartSets) → g.parts ≡ length table.first_rows.now
    → g.tokens ≡ table.tokens →
    is_well_formed g ≡ true → is_sized table ≡ true → is_kept_and_named table g known ≡ true → IsTableWritten g table
written_by table g known parts_are tokens_are well_formed sized kept_and_named =
    let few_rows = nat_lt (length table.rows.now) 2147483648 in
    let few_parts = nat_lt (length table.first_rows.now) 65536 in
    let firsts = list_all (λ first. nat_le first (length table.rows.now)) table.first_rows.now in
    let few_tokens = nat_lt table.tokens 64 in
    let sizes = and_parts (few_tokens && (few_rows && few_parts)) firsts sized in
    let numbers = and_parts few_tokens (few_rows && few_parts) sizes.0 in
    let few = and_parts few_rows few_parts numbers.1 in
    let both = and_parts (are_kept g known) (names_its_rows table (sets_of known) 0 g.rows) kept_and_named in
    let kept = kept_of g known both.0 in
    record {
      well_formed = well_formed;
      predictive = predictive g (sets_of known) (tree_of known) kept;
      one_each = sym parts_are;
      few_tokens = subst (λ (tokens : ℕ). tokens < 64) (sym tokens_are) (ltb-true table.tokens 64 numbers.0);
      few_rows = ltb-true (length table.rows.now) 2147483648 few.0;
      few_parts = ltb-true (length table.first_rows.now) 65536 few.1;
      first_rows = λ part below.
          let within : part < length table.first_rows.now = omega (arith, below, parts_are) in
          leb-true (first_row table part) (length table.rows.now)
          (list_all-at (λ first. nat_le first (length table.rows.now)) table.first_rows.now part (first_row table part) sizes.1
          (slice_get-get_or table.first_rows.now part 0 within));
      named_rows = λ token number row le is predicted.
          named_at table (sets_of known) g.rows 0 number row token both.1 is
          (predicted_sound g (sets_of known) kept.rows_keep kept.end_follows row token predicted)
          ∙ ap Some (omega arith);
    }

pub written_after : (n : ℕ) (table : WrittenTable) (start : ℕ) → is_written_after n table start ≡ true
    → IsTableWritten (written_grammar table start) table
written_after n table start passes =
    let g = written_grammar table start in
    let both = and_parts (is_well_formed g && is_sized table) (is_kept_and_named table g (known_after n g)) passes in
    let shape = and_parts (is_well_formed g) (is_sized table) both.0 in
    written_by table g (known_after n g) refl refl shape.0 shape.1 both.1
