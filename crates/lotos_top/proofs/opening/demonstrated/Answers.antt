use Rattle.std.proofs.Common.{◌≡◌, List, ℕ, [], None, Some, codes, subst, ◌∙◌}
use Rattle.std.proofs.lemmas.Result.{err_from_is_err_and}
use Rattle.certificate_verbs.specs.HandedOn.{AcceptsText, IsSummary, demonstration, goes_on}
use Rattle.certificate_verbs.specs.Printed.{print_in, IsFaultPrinted}
use Rattle.certificate_verbs.specs.declared.ended.Ended.TheVariants.{Done}
use Rattle.certificate_verbs.specs.declared.printing.Alone.{Alone}
use Rattle.lotos_top.specs.Prepared.{begun, CameTo, FailsAlone, IsReady, NamesNoFile}
use Rattle.lotos_top.specs.Parts.{OpensSession}
use Rattle.lotos_top.proofs.OpeningLemmas.{made_ready, opened_at_start, demo_ready, demo_fault, demo_came}
use Rattle.lotos_top.proofs.opening.demonstrated.Goals as goal

pub summary_alone-requires : goal.summary_alone-requires
summary_alone-requires c = record {
  lawful = c.in-Ok.ensures.1;
  at_start = opened_at_start (AcceptsText c.as_slice.result.now None []) c.in-Ok.opened c.in-Ok.ensures.0;
}

pub returns-in_err-text : goal.returns-in_err-text
returns-in_err-text c = λ now.
    let stopped = err_from_is_err_and c.from_residual.result c.from_residual.ensures.1 in rw stopped.1 (demo_came c.args.cells now)

pub returns-in-Ok : goal.returns-in-Ok
returns-in-Ok c = λ now.
    made_ready c.summary_alone.result c.ready_alone.result
    (λ (alone : Alone). IsSummary (begun c.in-Ok.opened).basis (begun c.in-Ok.opened).progress.situation c.args.cells alone.text.items
    × (alone.ended ≡ Done))
    (IsReady (Some (demonstration c.args.cells)) now now)
    (CameTo (Some (demonstration c.args.cells)) now now)
    c.ready_alone.ensures c.summary_alone.ensures
    (λ alone is. demo_ready c.args.cells now c.in-Ok.opened alone
    (subst (λ (text : List ℕ). OpensSession (AcceptsText text None []) [] (goes_on (begun c.in-Ok.opened)))
    (c.as_slice.ensures.value ∙ c.in_ok-text.ensures) c.in-Ok.ensures.0)
    is.0 is.1)
    (demo_came c.args.cells now)

pub returns : goal.returns
returns c = λ now.
    made_ready c.refused_demonstration.result c.ready_alone-in-Err.result
    (λ (alone : Alone). NamesNoFile c.in-Err.fault × IsFaultPrinted (codes "demo") None c.in-Err.fault (print_in alone))
    (IsReady (Some (demonstration c.args.cells)) now now)
    (CameTo (Some (demonstration c.args.cells)) now now)
    c.ready_alone-in-Err.ensures c.refused_demonstration.ensures
    (λ alone is. demo_fault c.args.cells now c.in-Err.fault alone
    (subst (λ (text : List ℕ). FailsAlone (OpensSession (AcceptsText text None [])) c.in-Err.fault)
    (c.as_slice.ensures.value ∙ c.in_ok-text.ensures) c.in-Err.ensures)
    is.0 is.1)
    (demo_came c.args.cells now)
