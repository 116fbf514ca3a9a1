use Rattle.std.proofs.Common.{◌≡◌, List, None, Some, refl, sym, subst}
use Rattle.lotos_base.specs.Equation.{Data}
use Rattle.lotos_base.specs.Term.{Term}
use Rattle.behaviour_semantics.specs.Fault.{fault_of}
use Rattle.behaviour_semantics.specs.Menu.{Meets}
use Rattle.behaviour_tree.specs.DefinitionView.{specification_of}
use Rattle.behaviour_tree.specs.MoveView.{derivation_of}
use Rattle.behaviour_tree.specs.StateView.{state_of}
use Rattle.behaviour_tree.specs.BehaviourView.{terms_of}
use Rattle.menu_builder.specs.HandedOn.{plain_entry, IsEntryOf, menu_entries}
use Rattle.menu_builder.specs.Menus.{entries_in}
use Rattle.sort_terms.specs.declared.sorted.Sorted.{Sorted}
use Rattle.menu_builder.proofs.HandedOn.{held_before, holds_after, keeps_both}
use Rattle.session_histories.specs.Refusal.{step_refusal, value_refusal}
use Rattle.session_log.specs.CourseView.{basis_over}
use Rattle.session_log.specs.Entries.{AreGiven, IsDerivationFor}
use Rattle.session_log.specs.Kept.{IsKeptMenu}
use Rattle.session_log.specs.RefusalView.{TellsStep}
use Rattle.session_log.specs.declared.courses.Past.{Past}
use Rattle.session_log.specs.declared.refusals.StepRefusal.TheVariants as step
use Rattle.session_log.proofs.CourseLemmas.{state_over, free_where_met, has_stepped, kept_stepped, same_progress, kept_same, chosen_told, taken_over, exact_over}
use Rattle.session_log.proofs.EntryLemmas.{entry_over, menu_kept, miscount_told}
use Rattle.lotos_base.proofs.Options.{gave_up}
use Rattle.session_log.proofs.courses.Course.step.Goals as goal

pub returns-in_err-entry-clause-answered : goal.returns-in_err-entry-clause-answered
returns-in_err-entry-clause-answered g c =
    let basis = basis_over (g.D.Deciding.known_data c.args.data.now) (g.D.Deciding.canon c.args.data.now) c.args.spec.now in
    let menu = entries_in c.args.self.now.menu in
    gave_up _ _ c.from_residual.result c.in_err-entry.field-0.0 c.from_residual.ensures.1 (
      refl,
      subst (λ (values : List Sorted). TellsStep (step_refusal basis menu c.args.number (terms_of values)) c.in_err-entry.field-0.0)
          c.as_slice-given.ensures.value
          (miscount_told basis menu c.args.number c.as_slice-given.result.now c.in_err-entry.field-0.0 c.in_err-entry.ensures),
    )

pub derivation_for-requires-clause-over : goal.derivation_for-requires-clause-over
derivation_for-requires-clause-over g c =
    entry_over (g.D.Deciding.known_data c.args.data.now).signature c.args.self.now.menu c.args.number c.in_ok-entry.entry.now
    c.requires.kept.menu c.in_ok-entry.ensures.0

pub derivation_for-requires-clause-given : goal.derivation_for-requires-clause-given
derivation_for-requires-clause-given g c =
    subst (AreGiven (g.D.Deciding.known_data c.args.data.now).signature) (sym c.as_slice-given.ensures.value) c.requires.given

pub returns-in_err-derivation-clause-answered : goal.returns-in_err-derivation-clause-answered
returns-in_err-derivation-clause-answered g c =
    let known = g.D.Deciding.known_data c.args.data.now in
    let canon = g.D.Deciding.canon c.args.data.now in
    gave_up _ _ c.from_residual-in_err-derivation.result c.in_err-derivation.field-0.0 c.from_residual-in_err-derivation.ensures.1 (
      refl,
      subst (λ (values : List Sorted). TellsStep (step_refusal (basis_over known canon c.args.spec.now) (entries_in c.args.self.now.menu)
          c.args.number (terms_of values)) c.in_err-derivation.field-0.0) c.as_slice-given.ensures.value
          (chosen_told known canon c.args.self.now.menu c.args.number c.as_slice-given.result.now c.in_ok-entry.entry.now
          c.in_ok-entry.ensures.0 c.in_ok-entry.ensures.1 c.in_err-derivation.field-0.0 c.in_err-derivation.ensures.derived
          c.args.spec.now),
    )

pub moved-requires-clause-entry : goal.moved-requires-clause-entry
moved-requires-clause-entry g c =
    holds_after (λ (d : Data) (k : Term → Term). IsEntryOf d.signature c.in_ok-entry.entry.now) c.in_ok-derivation.ensures.same_known
    (entry_over (g.D.Deciding.known_data c.args.data.now).signature c.args.self.now.menu c.args.number c.in_ok-entry.entry.now
    c.requires.kept.menu c.in_ok-entry.ensures.0)

pub moved-requires-clause-given : goal.moved-requires-clause-given
moved-requires-clause-given g c =
    holds_after (λ (d : Data) (k : Term → Term). AreGiven d.signature c.as_slice-given.result.now) c.in_ok-derivation.ensures.same_known
    (subst (AreGiven (g.D.Deciding.known_data c.args.data.now).signature) (sym c.as_slice-given.ensures.value) c.requires.given)

pub moved-requires-clause-derived : goal.moved-requires-clause-derived
moved-requires-clause-derived g c =
    holds_after (λ (d : Data) (k : Term → Term). IsDerivationFor d k c.in_ok-entry.entry.now c.as_slice-given.result.now
    c.in_ok-derivation.derivation) c.in_ok-derivation.ensures.same_known c.in_ok-derivation.ensures.derived

pub moved-requires-clause-free : goal.moved-requires-clause-free
moved-requires-clause-free g c =
    let known = g.D.Deciding.known_data c.args.data.now in
    let canon = g.D.Deciding.canon c.args.data.now in
    let spec = c.args.spec.now in
    let free = free_where_met known canon spec c.args.self.now c.args.number c.in_ok-entry.entry.now c.as_slice-given.result.now
    c.in_ok-derivation.derivation
    (state_over g.M.MenuMaker.suits known canon spec c.args.ranks.now c.args.maker.now c.args.self.now
    (g.met.D.Deciding.is_canon c.args.data.now) c.requires.suited c.requires.kept) c.requires.kept c.in_ok-entry.ensures.0
    c.in_ok-derivation.ensures.derived in
    holds_after (λ (d : Data) (k : Term → Term). Meets d (plain_entry c.in_ok-entry.entry.now) (terms_of c.as_slice-given.result.now)
    → fault_of d k (specification_of spec).processes (state_of c.args.self.now.state) (derivation_of c.in_ok-derivation.derivation) ≡ None)
    c.in_ok-derivation.ensures.same_known free

pub returns-in_err-taken-clause-answered : goal.returns-in_err-taken-clause-answered
returns-in_err-taken-clause-answered g c =
    let known = g.D.Deciding.known_data c.args.data.now in
    let canon = g.D.Deciding.canon c.args.data.now in
    let told = held_before (λ (d : Data) (k : Term → Term). TellsStep (value_refusal d.signature k
    (Some (plain_entry c.in_ok-entry.entry.now)) (terms_of c.as_slice-given.result.now)) c.in_err-taken.field-0.0)
    c.in_ok-derivation.ensures.same_known c.in_err-taken.ensures.answer in
    gave_up _ _ c.from_residual-in_err-taken.result c.in_err-taken.field-0.0 c.from_residual-in_err-taken.ensures.1 (
      refl,
      subst (λ (values : List Sorted). TellsStep (step_refusal (basis_over known canon c.args.spec.now) (entries_in c.args.self.now.menu)
          c.args.number (terms_of values)) c.in_err-taken.field-0.0) c.as_slice-given.ensures.value
          (chosen_told known canon c.args.self.now.menu c.args.number c.as_slice-given.result.now c.in_ok-entry.entry.now
          c.in_ok-entry.ensures.0 c.in_ok-entry.ensures.1 c.in_err-taken.field-0.0 told c.args.spec.now),
    )

pub returns-in_err-keep-clause-answered : goal.returns-in_err-keep-clause-answered
returns-in_err-keep-clause-answered g c =
    gave_up _ _ c.from_residual-in_err-keep.result step.NoMemory c.from_residual-in_err-keep.ensures.1 (
      same_progress c.args.self.now c.keep.new.self c.in_err-keep.ensures.unchanged.state c.in_err-keep.ensures.unchanged.menu
          c.in_err-keep.ensures.unchanged.history,
      tt,
    )

pub returns-in_err-keep-clause-kept_after : goal.returns-in_err-keep-clause-kept_after
returns-in_err-keep-clause-kept_after g c =
    kept_same (g.D.Deciding.known_data c.args.data.now) (g.D.Deciding.canon c.args.data.now) c.args.spec.now c.args.self.now
    c.keep.new.self c.in_err-keep.ensures.unchanged.state c.in_err-keep.ensures.unchanged.menu c.in_err-keep.ensures.unchanged.history
    c.requires.kept

pub returns-clause-answered : goal.returns-clause-answered
returns-clause-answered g c =
    let known = g.D.Deciding.known_data c.args.data.now in
    let canon = g.D.Deciding.canon c.args.data.now in
    let spec = c.args.spec.now in
    let same = c.in_ok-derivation.ensures.same_known in
    let later = keeps_both same c.in_ok-taken.ensures.same_known in
    let over = state_over g.M.MenuMaker.suits known canon spec c.args.ranks.now c.args.maker.now c.args.self.now
    (g.met.D.Deciding.is_canon c.args.data.now) c.requires.suited c.requires.kept in
    let next : Past = record {
      derivation = c.in_ok-derivation.derivation;
      label = c.in_ok-kept.kept;
      number = c.args.number;
      values = c.args.values;
      state = c.in_ok-taken.taken.1;
      menu = c.in_ok-menu.menu;
    } in
    has_stepped known canon spec c.args.self.now c.args.number c.args.values.items c.in_ok-taken.taken.0 next c.keep.new.self over
    c.requires.kept (record {
      entry = c.in_ok-entry.entry.now;
      listed = c.in_ok-entry.ensures.0;
      derived = subst (λ (values : List Sorted). IsDerivationFor known canon c.in_ok-entry.entry.now values c.in_ok-derivation.derivation)
          c.as_slice-given.ensures.value c.in_ok-derivation.ensures.derived;
      taken = taken_over known _ canon _ spec c.args.self.now.state c.in_ok-taken.taken.1 c.in_ok-derivation.derivation
          c.in_ok-taken.taken.0 same.same_data same.same_canon c.in_ok-taken.ensures.answer;
      exact = exact_over known _ canon _ spec c.in_ok-taken.taken.1 c.in_ok-menu.menu later.same_data later.same_canon
          c.in_ok-menu.ensures.exact;
      entries = subst (λ (d : Data). IsKeptMenu d.signature c.in_ok-menu.menu) later.same_data
          (menu_kept _ (menu_entries c.in_ok-menu.menu) c.in_ok-menu.ensures.over);
      numbered = refl;
      valued = refl;
      labelled = c.in_ok-kept.ensures.same;
      profiled = c.in_ok-kept.ensures.profiles;
      gone = c.in_ok-keep.ensures.kept;
    })

pub returns-clause-kept_after : goal.returns-clause-kept_after
returns-clause-kept_after g c =
    let known = g.D.Deciding.known_data c.args.data.now in
    let canon = g.D.Deciding.canon c.args.data.now in
    let spec = c.args.spec.now in
    let same = c.in_ok-derivation.ensures.same_known in
    let later = keeps_both same c.in_ok-taken.ensures.same_known in
    let over = state_over g.M.MenuMaker.suits known canon spec c.args.ranks.now c.args.maker.now c.args.self.now
    (g.met.D.Deciding.is_canon c.args.data.now) c.requires.suited c.requires.kept in
    let next : Past = record {
      derivation = c.in_ok-derivation.derivation;
      label = c.in_ok-kept.kept;
      number = c.args.number;
      values = c.args.values;
      state = c.in_ok-taken.taken.1;
      menu = c.in_ok-menu.menu;
    } in
    kept_stepped known canon spec c.args.self.now c.args.number c.args.values.items c.in_ok-taken.taken.0 next c.keep.new.self over
    c.requires.kept c.requires.given (record {
      entry = c.in_ok-entry.entry.now;
      listed = c.in_ok-entry.ensures.0;
      derived = subst (λ (values : List Sorted). IsDerivationFor known canon c.in_ok-entry.entry.now values c.in_ok-derivation.derivation)
          c.as_slice-given.ensures.value c.in_ok-derivation.ensures.derived;
      taken = taken_over known _ canon _ spec c.args.self.now.state c.in_ok-taken.taken.1 c.in_ok-derivation.derivation
          c.in_ok-taken.taken.0 same.same_data same.same_canon c.in_ok-taken.ensures.answer;
      exact = exact_over known _ canon _ spec c.in_ok-taken.taken.1 c.in_ok-menu.menu later.same_data later.same_canon
          c.in_ok-menu.ensures.exact;
      entries = subst (λ (d : Data). IsKeptMenu d.signature c.in_ok-menu.menu) later.same_data
          (menu_kept _ (menu_entries c.in_ok-menu.menu) c.in_ok-menu.ensures.over);
      numbered = refl;
      valued = refl;
      labelled = c.in_ok-kept.ensures.same;
      profiled = c.in_ok-kept.ensures.profiles;
      gone = c.in_ok-keep.ensures.kept;
    })
