use Rattle.std.proofs.Common.{◌≡◌, ◌++◌, ℕ, List, [], inl, inr, refl, ap, ◌∙◌, subst, codes, decimal}
use Rattle.lotos_base.specs.Name.{spelling}
use Rattle.session_log.specs.HandedOn.{Spec, SessionBasis}
use Rattle.line_server.specs.Request.{replay}
use Rattle.history_lines.specs.Standing.{shown_menu}
use Rattle.history_lines.specs.LinesView.{basis_of, reached, standing_of}
use Rattle.history_lines.specs.RefusalView.{AddsFault}
use Rattle.history_lines.specs.Serving.{moment_of, GivesAnswer, IsBeforeOrBehind}
use Rattle.history_lines.proofs.ServingLemmas.{either_way, same_standing, is_as_before}
use Rattle.history_lines.proofs.ShelfLemmas.{gives_replayed, gives_refused}
use Rattle.history_lines.proofs.lines.HistoryLines.replay_whole.Goals as goal

pub returns-in-Ok-clause-answered : goal.returns-in-Ok-clause-answered
returns-in-Ok-clause-answered g c = λ name texts faults stands.
    let new = c.take_all.new.self in
    let before = standing_of c.args.self.now texts in
    let after = standing_of new texts in
    let told : List ℕ = codes "replayed " ++ decimal c.in-Ok.count ++ codes "\n" ++ shown_menu (basis_of new) (reached new) in
    either_way c.replayed.result (λ line. line.items ≡ told)
    (λ line. GivesAnswer (moment_of before faults) (replay name) line.items (moment_of after faults))
    (λ _. IsBeforeOrBehind (moment_of before faults) (replay name) (moment_of after faults))
    (λ line is.
    gives_replayed before after faults name c.args.text.now line.items c.in-Ok.count stands c.requires.short
    c.in-Ok.ensures.answered.0 c.in-Ok.ensures.stays.basis refl c.in-Ok.ensures.answered.1 is)
    (λ _.
    inr (
      told,
      gives_replayed before after faults name c.args.text.now told c.in-Ok.count stands c.requires.short
          c.in-Ok.ensures.answered.0 c.in-Ok.ensures.stays.basis refl c.in-Ok.ensures.answered.1 refl,
    ))
    c.replayed.ensures

pub returns-in-Err-clause-answered : goal.returns-in-Err-clause-answered
returns-in-Err-clause-answered g c = λ name texts faults stands.
    let before = standing_of c.args.self.now texts in
    let after = standing_of c.take_all.new.self texts in
    let same : after ≡ before = same_standing after before c.in-Err.ensures.stays.basis c.in-Err.ensures.answered.0 refl in
    let named : c.spelled.result.now ≡ before.basis.specification.name =
    c.spelled.ensures
    ∙ (ap (λ (spec : Spec). spelling spec.name) c.spec.ensures
    ∙ ap (λ (basis : SessionBasis). basis.specification.name) c.in-Err.ensures.stays.basis) in
    either_way c.fault_line.result (λ line. AddsFault c.spelled.result.now c.in-Err.fault [] line.items)
    (λ line. GivesAnswer (moment_of before faults) (replay name) line.items (moment_of after faults))
    (λ _. IsBeforeOrBehind (moment_of before faults) (replay name) (moment_of after faults))
    (λ line adds.
    gives_refused before after faults name c.args.text.now line.items c.in-Err.fault stands c.requires.short
    c.in-Err.ensures.answered.1 same
    (subst (λ (it : List ℕ). AddsFault it c.in-Err.fault [] line.items) named adds))
    (λ _. inl (is_as_before before after faults faults same refl))
    c.fault_line.ensures
