use Rattle.std.proofs.Common.{sym, ◌∙◌}
use Rattle.std.proofs.lemmas.List.{length-map}
use Rattle.lotos_base.specs.Name.{spelling}
use Rattle.lotos_base.specs.WrittenView.{placed_name_of}
use Rattle.sort_terms.specs.ReaderView.{signature_read}
use Rattle.static_scope.specs.ProcessView.{process_heading}
use Rattle.static_scope.proofs.OwnLemmas.{callable_same}
use Rattle.static_scope.proofs.own_processes.callable.Goals as goal

pub returns : goal.returns
returns c =
    callable_same (signature_read c.args.reader.now) c.args.number (process_heading c.args.text.now) (spelling c.in_ok-name.name)
    c.in_ok-number.number c.in_ok-gates.gates c.in_ok-sorts.sorts.items c.in_ok-name.ensures c.in_ok-number.ensures
    (c.in_ok-gates.ensures ∙ c.len.ensures ∙ c.args.text.now.gates.ok.0
    ∙ sym (length-map c.args.text.now.gates.items placed_name_of)) c.in_ok-sorts.ensures
