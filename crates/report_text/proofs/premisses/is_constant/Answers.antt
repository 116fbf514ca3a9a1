use Rattle.std.proofs.Common.{◌≡◌, ℕ, Some, ap, sym, ◌∙◌}
use Rattle.std.specs.Prelude.{Option}
use Rattle.printed_texts.proofs.TermLemmas.{filled_list}
use Rattle.printed_texts.specs.BehaviourText.{is_constant}
use Rattle.sort_terms.specs.TermView.{term_of}
use Rattle.sort_terms.specs.declared.terms.Term.{Term}
use Rattle.report_text.proofs.NamingLemmas.{no_constant}
use Rattle.report_text.proofs.premisses.is_constant.Goals as goal

pub returns-else-is_empty : goal.returns-else-is_empty
returns-else-is_empty c =
    c.if-is_empty.false
    ∙ sym (ap (λ (truth : Option ℕ). is_constant truth (term_of c.args.term.now)) c.in-Some.is
    ∙ ap (λ (term : Term). is_constant (Some c.in-Some.constant) (term_of term)) c.in-Node.is
    ∙ no_constant c.in-Some.constant c.in-Node.op c.in-Node.profile c.in-Node.arguments c.items.result.now.items c.items.ensures
    (filled_list c.items.result.now.items _ c.items.result.now.ok.0 (sym c.is_empty.ensures ∙ c.if-is_empty.false)))
