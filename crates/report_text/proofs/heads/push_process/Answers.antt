use Rattle.std.proofs.Common.{◌≡◌, ◌++◌, ℕ, List, map, slice_get, ap, sym, ◌∙◌, subst}
use Rattle.std.proofs.lemmas.Result.{on_ok_weaker}
use Rattle.lotos_base.specs.Name.{spelling}
use Rattle.behaviour_semantics.specs.Behaviour as plain
use Rattle.behaviour_tree.specs.DefinitionView.{process_of}
use Rattle.behaviour_tree.specs.declared.definitions.Process.{Process}
use Rattle.printed_texts.specs.MenuText.{name_text}
use Rattle.report_text.specs.NamingView.{names_of_processes}
use Rattle.report_text.specs.declared.naming.ProcessNames.{ProcessNames}
use Rattle.report_text.proofs.NamingLemmas.{own_name}
use Rattle.report_text.proofs.heads.push_process.Goals as goal

pub returns-in-Some : goal.returns-in-Some
returns-in-Some c =
    on_ok_weaker c.push_text.result
    (λ h. h ∙ ap (λ (text : List ℕ). c.args.into.now.items ++ text)
    (c.spelled.ensures
    ∙ sym (ap (λ (names : ProcessNames). name_text (slice_get (names_of_processes names) c.args.process)) c.in-Own.is
    ∙ subst (λ (ps : List Process). name_text (slice_get (map (λ (p : plain.Process). p.name) (map process_of ps)) c.args.process)
    ≡ spelling c.in-Some.called.now.name) c.deref.ensures.value
    (own_name c.deref.result.now c.args.process c.in-Some.called.now c.in-Some.ensures.lookup.0 c.in-Some.ensures.lookup.1))))
    c.push_text.ensures
