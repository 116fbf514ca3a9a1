-- That what is known of a store has at most one proof, as a fact kept beside code must.
use Rattle.std.specs.Prelude.{ℕ, Option, List}
use Rattle.std.proofs.Props.{props}
use Rattle.lotos_base.specs.Signature.{Signature}
use Rattle.lotos_base.proofs.TestLemmas.{Term-set}
use Rattle.path_order.specs.RuleSides.{IsOf-prop}
use Rattle.path_order.specs.RulesView.{signature_in}
use Rattle.path_order.specs.declared.rules.Rules.{Rules}
use Rattle.term_rewriter.specs.FirstIndexView.{IsIndexOf}
use Rattle.term_rewriter.specs.declared.first_index.FirstIndex.{FirstIndex}
use Rattle.term_store.specs.Cells.{HaveTermsOf}
use Rattle.term_store.specs.CellProps.{AreCells-prop, IsOnce-prop}
use Rattle.term_store.specs.Kept.{IsSoundStore}

pub IsIndexOf-prop : (rules : Rules) (index : FirstIndex) → IsProp (IsIndexOf rules index)
IsIndexOf-prop rules index = hlevel props

HaveTermsOf-prop : (signature : Signature) (keys : List (List ℕ)) → IsProp (HaveTermsOf signature keys)
HaveTermsOf-prop signature keys =
    let cells = AreCells-prop 0 keys in
    let once = IsOnce-prop keys in
    let one = IsOf-prop signature in
    hlevel (props, cells, once, one)

pub IsSound-prop : (rules : Rules) (keys : List (List ℕ)) (kept : List (Option ℕ)) → IsProp (IsSoundStore rules keys kept)
IsSound-prop rules keys kept =
    let have = HaveTermsOf-prop (signature_in rules) keys in
    let set = Term-set in
    hlevel (props, have, set)
