use Rattle.std.proofs.Common.{List, ℕ, subst, sym}
use Rattle.session_log.specs.HandedOn.{plain_rules_in}
use Rattle.sort_terms.specs.SignatureView.{signature_of}
use Rattle.value_lists.specs.ListOutcome.{ValuesComeTo}
use Rattle.value_lists.specs.ListText.{listed_values_text}
use Rattle.value_lists.specs.ListView.{AddsList, HasRules}
use Rattle.history_lines.specs.LinesView.{basis_of}
use Rattle.history_lines.proofs.ListingLemmas.{book_rules}
use Rattle.history_lines.proofs.lines.HistoryLines.values_line.Goals as goal

pub returns : goal.returns
returns g c =
    subst (λ (start : List ℕ). AddsList (ValuesComeTo (basis_of c.args.self.now) c.args.name.now c.args.size)
    (listed_values_text (basis_of c.args.self.now)) start c.push_value_list.new.into.items) c.new-text.ensures.items
    (c.in_ok-push_value_list.ensures (basis_of c.args.self.now)
    (subst (λ rules. HasRules (basis_of c.args.self.now) (signature_of c.args.self.now.signature.now) (plain_rules_in rules))
    (sym c.rules.ensures)
    (book_rules c.args.self.now.book c.args.self.now.session.spec (signature_of c.args.self.now.signature.now)
    c.requires.serving.shown)))
