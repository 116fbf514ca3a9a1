use Rattle.std.proofs.Common.{map, subst}
use Rattle.lotos_base.specs.Signature.{Signature}
use Rattle.lotos_base.specs.WrittenView.{written_term_of}
use Rattle.behaviour_tree.specs.BehaviourView.{terms_of}
use Rattle.session_histories.specs.Replay.{AreRead}
use Rattle.session_log.specs.Entries.{AreGiven}
use Rattle.session_log.specs.Values.{IsFirstMisread, TellsMisread}
use Rattle.session_log.proofs.ReplayLemmas.{count_told, entry_misread}
use Rattle.lotos_base.proofs.Options.{gave_up}
use Rattle.session_log.proofs.replaying.values_of_line.Goals as goal

pub returns-in_err-entry : goal.returns-in_err-entry
returns-in_err-entry c = λ signature over.
    gave_up _ _ c.from_residual.result _ c.from_residual.ensures.1
    (count_told signature c.args.menu.now c.args.number c.args.terms.now c.in_err-entry.field-0.0 c.in_err-entry.ensures)

pub returns-in_err-values_at : goal.returns-in_err-values_at
returns-in_err-values_at c = λ signature over.
    let entry = c.in_ok-entry.entry.now in
    gave_up _ _ c.from_residual-in_err-values_at.result _ c.from_residual-in_err-values_at.ensures.1
    (entry_misread signature c.args.menu.now c.args.number entry c.args.terms.now c.in_ok-entry.ensures.0 c.in_ok-entry.ensures.1
    c.in_err-values_at.field-0.0
    (subst (λ (it : Signature). TellsMisread (IsFirstMisread it entry.vars.items (map written_term_of c.args.terms.now))
    c.in_err-values_at.field-0.0) over.read c.in_err-values_at.ensures))

pub returns : goal.returns
returns c = λ signature over.
    let entry = c.in_ok-entry.entry.now in
    let values = c.in_ok-values_at.field-0.items in
    record {
      entry = entry;
      listed = c.in_ok-entry.ensures.0;
      read = subst (λ (it : Signature). AreRead it entry.vars.items (map written_term_of c.args.terms.now) (terms_of values)) over.read
          c.in_ok-values_at.ensures.0;
      given = subst (λ (it : Signature). AreGiven it values) over.read c.in_ok-values_at.ensures.1;
    }
