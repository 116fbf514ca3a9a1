use Rattle.std.proofs.Common.{◌≡◌, refl, sym, ◌∙◌, arith}
use Rattle.std.specs.Prelude.{◌||◌}
use Rattle.sort_terms.proofs.CombinedLemmas.{other_length, combined_none, combined_more}
use Rattle.sort_terms.proofs.counting.several_readings.Goals as goal
use Rattle.sort_terms.proofs.counting.several_readings.Goals.{then-several, else-several}

pub returns-then-len : goal.returns-then-len
returns-then-len c =
    other_length _ _ (λ same. c.if-len.true (c.len.ensures ∙ c.args.sorts.now.ok.0 ∙ same ∙ sym c.args.arguments.now.ok.0
    ∙ sym c.len-2.ensures))

pub returns-in_err-choice : goal.returns-in_err-choice
returns-in_err-choice c =
    c.from_residual.ensures
    ∙ combined_none c.args.sorts.now.items c.args.arguments.now.items c.loop-i.i c.index-in-loop-i.result.now c.index.result.now
    c.loop-i.several
    (omega arith) (omega arith) c.index-in-loop-i.ensures c.index.ensures c.in_err-choice.ensures c.loop-i.invariant

pub loop-i-preserved : goal.loop-i-preserved
loop-i-preserved c =
    let is : c.if-several.several ≡ (c.loop-i.several || c.in_ok-choice.choice.several) =
    elim c.if-several.branch [
      | then-several w ↦ w.several-is ∙ sym (rw w.if-several.true refl)
      | else-several w ↦ w.several-is ∙ sym (rw w.if-several.false refl)
    ] in
    combined_more c.args.sorts.now.items c.args.arguments.now.items c.loop-i.i c.index-in-loop-i.result.now c.index.result.now
    c.loop-i.several
    c.if-several.several c.in_ok-choice.choice (omega arith)
    (omega arith) c.index-in-loop-i.ensures c.index.ensures c.in_ok-choice.ensures is c.loop-i.invariant
