use Rattle.std.proofs.Common.{◌≡◌, None, slice_get, arith}
use Rattle.std.proofs.lemmas.Bool.Decides.{nat_tests}
use Rattle.std.proofs.lemmas.List.{nil_from_length}
use Rattle.certificate_theory.specs.Certificate.{CertificateFault, no_state, no_entry}
use Rattle.certificate_theory.specs.NamedStates.{NamesNoState, numbered_entry}
use Rattle.behaviour_tree.specs.StateView.{state_of}
use Rattle.menu_builder.specs.Menus.{entries_in}
use Rattle.bisim_check.specs.Faults.{TellsPairs}
use Rattle.bisim_check.specs.Surveys.{behaviours_in, side_over}
use Rattle.lotos_base.proofs.Options.{gave_up}
use Rattle.bisim_check.proofs.SurveyLemmas.{told, entry_there, entry_over, found_surveyed, names, names_open, names_no_entry, names_no_state, some_member}
use Rattle.bisim_check.proofs.named.named_target.Goals as goal

pub returns-in_err-surveyed-clause-named : goal.returns-in_err-surveyed-clause-named
returns-in_err-surveyed-clause-named g c =
    let known = g.D.Deciding.known_data c.args.data.now in
    let canon = g.D.Deciding.canon c.args.data.now in
    let states = c.args.states.now.items in
    gave_up _ (TellsPairs (NamesNoState (side_over known canon c.args.spec.now) (behaviours_in states) c.args.from c.args.number
    c.args.line)) c.from_residual.result c.in_err-surveyed.field-0.0 c.from_residual.ensures.1
    (told (λ (f : CertificateFault). (f ≡ no_state c.args.line) × (slice_get (behaviours_in states) c.args.from ≡ None))
    (NamesNoState (side_over known canon c.args.spec.now) (behaviours_in states) c.args.from c.args.number c.args.line)
    c.in_err-surveyed.field-0.0 (names_no_state known canon c.args.spec.now states c.args.from c.args.number c.args.line)
    c.in_err-surveyed.ensures)

pub returns-in_err-entry-clause-named : goal.returns-in_err-entry-clause-named
returns-in_err-entry-clause-named g c =
    let known = g.D.Deciding.known_data c.args.data.now in
    let canon = g.D.Deciding.canon c.args.data.now in
    let states = c.args.states.now.items in
    let found = c.in_ok-surveyed.surveyed.now in
    gave_up _ (TellsPairs (NamesNoState (side_over known canon c.args.spec.now) (behaviours_in states) c.args.from c.args.number
    c.args.line)) c.from_residual-in_err-entry.result c.in_err-entry.field-0.0 c.from_residual-in_err-entry.ensures.1
    (told (λ (f : CertificateFault). (f ≡ no_entry c.args.line) × (numbered_entry (entries_in found.menu) c.args.number ≡ None))
    (NamesNoState (side_over known canon c.args.spec.now) (behaviours_in states) c.args.from c.args.number c.args.line)
    c.in_err-entry.field-0.0
    (names_no_entry known canon c.args.spec.now states c.requires.surveyed c.args.from found c.in_ok-surveyed.ensures c.args.number
    c.args.line) c.in_err-entry.ensures)

pub returns-then-not-is_empty-clause-named : goal.returns-then-not-is_empty-clause-named
returns-then-not-is_empty-clause-named g c =
    let entry = c.in_ok-entry.entry.now in
    names_open (g.D.Deciding.known_data c.args.data.now) (g.D.Deciding.canon c.args.data.now) c.args.spec.now c.args.states.now.items
    c.requires.surveyed c.args.from c.in_ok-surveyed.surveyed.now c.in_ok-surveyed.ensures c.args.number c.args.line entry
    c.in_ok-entry.ensures
    (some_member entry.vars.items (λ none. grind (arith, nat_tests, entry.vars.ok.0, c.is_empty.ensures, c.if-not-is_empty.true)))

pub target-requires-clause-surveyed : goal.target-requires-clause-surveyed
target-requires-clause-surveyed g c =
    found_surveyed (g.D.Deciding.known_data c.args.data.now) (g.D.Deciding.canon c.args.data.now) c.args.spec.now
    c.args.states.now.items c.requires.surveyed c.args.from c.in_ok-surveyed.surveyed.now c.in_ok-surveyed.ensures

pub target-requires-clause-there : goal.target-requires-clause-there
target-requires-clause-there g c =
    entry_there c.in_ok-surveyed.surveyed.now.menu c.args.number c.in_ok-entry.entry.now c.in_ok-entry.ensures

pub target-requires-clause-over : goal.target-requires-clause-over
target-requires-clause-over g c =
    entry_over (g.D.Deciding.known_data c.args.data.now) (g.D.Deciding.canon c.args.data.now) c.args.spec.now c.args.states.now.items
    c.requires.surveyed c.args.from c.in_ok-surveyed.surveyed.now c.in_ok-surveyed.ensures c.args.number c.in_ok-entry.entry.now
    c.in_ok-entry.ensures

pub target-requires-clause-closed : goal.target-requires-clause-closed
target-requires-clause-closed g c =
    let entry = c.in_ok-entry.entry.now in
    nil_from_length entry.vars.items (grind (arith, nat_tests, entry.vars.ok.0, c.is_empty.ensures, c.if-not-is_empty.false))

pub returns-clause-named : goal.returns-clause-named
returns-clause-named g c =
    let entry = c.in_ok-entry.entry.now in
    names (g.D.Deciding.known_data c.args.data.now) (g.D.Deciding.canon c.args.data.now) c.args.spec.now c.args.states.now.items
    c.requires.surveyed c.args.from c.in_ok-surveyed.surveyed.now c.in_ok-surveyed.ensures c.args.number entry
    (state_of c.in_ok-target.field-0) c.in_ok-entry.ensures
    (nil_from_length entry.vars.items (grind (arith, nat_tests, entry.vars.ok.0, c.is_empty.ensures, c.if-not-is_empty.false)))
    c.in_ok-target.ensures.leads
