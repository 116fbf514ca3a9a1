use Rattle.std.proofs.Common.{◌++◌, ℕ, None, Some, ap, sym, ◌∙◌}
use Rattle.std.specs.Prelude.{Option}
use Rattle.std.proofs.lemmas.List.{append-nil}
use Rattle.std.proofs.lemmas.Result.{on_ok_weaker}
use Rattle.sort_terms.specs.Operations.{operation_of}
use Rattle.sort_terms.specs.SignatureView.{signature_of}
use Rattle.flat_text.specs.DataText.{sort_if_any}
use Rattle.flat_text.proofs.SideSorts.{node_sort}
use Rattle.flat_text.proofs.data_lines.push_sort_of.Goals as goal

pub returns-in-None : goal.returns-in-None
returns-in-None c =
    sym (append-nil c.args.into.now.items)
    ∙ ap (λ (sort : Option ℕ). c.args.into.now.items ++ sort_if_any (signature_of c.args.signature.now) sort)
    (sym (node_sort c.args.signature.now c.args.term.now.term c.in-Node.op c.in-Node.profile c.in-Node.arguments None
    (sym c.term.ensures ∙ c.in-Node.is) c.in-None.ensures))

pub returns-in-Some : goal.returns-in-Some
returns-in-Some c =
    on_ok_weaker c.push_sort-in-Some.result
    (λ h. h ∙ ap (λ (sort : Option ℕ). c.args.into.now.items ++ sort_if_any (signature_of c.args.signature.now) sort)
    (sym (node_sort c.args.signature.now c.args.term.now.term c.in-Node.op c.in-Node.profile c.in-Node.arguments
    (Some (operation_of c.in-Some.operation.now)) (sym c.term.ensures ∙ c.in-Node.is) c.in-Some.ensures)))
    c.push_sort-in-Some.ensures
