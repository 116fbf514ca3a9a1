-- The kinds of tokens that rows keep, and that a row has one in front or none.
use Rattle.std.specs.Prelude.{◌≡◌, ℕ, Bool, true, ◌&&◌, ◌==◌, nat_lt}
use Rattle.std.specs.Int.{bit_at}
use Rattle.std.specs.List.{list_all}
use Rattle.ll_engine.specs.Fold.{kept_in_front}
use Rattle.lotos_lexer.specs.declared.kinds.TheConstants as kind
use Rattle.lotos_rows.specs.declared.kept.TheConstants.{KEPT}
use Rattle.lotos_rows.specs.Rows.{rows}

abbrev pub is_kept_kind : ℕ → Bool
is_kept_kind number = nat_lt number kind.COUNT && (bit_at KEPT number == 1)

abbrev pub KeptStandInFront : Type 0
KeptStandInFront = list_all (λ row. kept_in_front is_kept_kind row.right) rows ≡ true
