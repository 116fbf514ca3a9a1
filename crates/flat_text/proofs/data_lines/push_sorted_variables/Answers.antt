use Rattle.std.proofs.Common.{◌≡◌, ◌++◌, List, ℕ, length, ap, ◌∙◌, arith}
use Rattle.report_text.specs.HandedOn.{commas}
use Rattle.report_text.proofs.HandedOn.{listed_all}
use Rattle.report_text.proofs.ListLemmas.{map_twice}
use Rattle.sort_terms.specs.EquationView.{variable_of}
use Rattle.sort_terms.specs.SignatureView.{signature_of}
use Rattle.sort_terms.specs.declared.equations.Variable.{Variable}
use Rattle.flat_text.specs.DataText.{sorted_variable}
use Rattle.flat_text.proofs.data_lines.push_sorted_variables.Goals as goal

pub returns : goal.returns
returns c =
    listed_all (λ (v : Variable). sorted_variable (signature_of c.args.signature.now) (variable_of v)) c.args.variables.now.items
    c.loop-index.index _ _
    (let e : length c.deref-variable-items.result.now ≡ length c.args.variables.now.items
    = ap length c.deref-variable-items.ensures.value in omega arith)
    (let e : length c.deref-variable-items.result.now ≡ length c.args.variables.now.items
    = ap length c.deref-variable-items.ensures.value in omega arith)
    c.loop-index.invariant
    ∙ ap (λ (texts : List (List ℕ)). c.args.into.now.items ++ commas texts)
    (map_twice (sorted_variable (signature_of c.args.signature.now)) variable_of c.args.variables.now.items)
