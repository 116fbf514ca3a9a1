use Rattle.std.proofs.Common.{◌≡◌, ◌++◌, List, ℕ, codes, ap, sym, ◌∙◌, arith}
use Rattle.std.proofs.lemmas.Result.{on_ok_weaker}
use Rattle.lotos_base.proofs.Pieces.{two_pieces, three_pieces}
use Rattle.lotos_base.specs.Name.{spelling}
use Rattle.lotos_base.specs.Signature as plain
use Rattle.report_text.specs.HandedOn.{commas}
use Rattle.report_text.proofs.HandedOn.{listed_all}
use Rattle.report_text.proofs.ListLemmas.{map_twice}
use Rattle.sort_terms.specs.Operations.{sort_of}
use Rattle.sort_terms.specs.declared.operations.Sort.{Sort}
use Rattle.flat_text.specs.DataText.{line}
use Rattle.flat_text.proofs.FilledLists.{mapped_some, sorts_filled}
use Rattle.flat_text.proofs.data_lines.push_sorts.Goals as goal

pub returns : goal.returns
returns c =
    on_ok_weaker c.push_text-2.result
    (λ h. three_pieces c.args.into.now.items _ _ _ _ _ _ c.in_ok-push_text.ensures
    (listed_all (λ (s : Sort). spelling s.name) c.args.sorts.now c.loop-index.index _ _ (omega arith) (omega arith)
    c.loop-index.invariant)
    h
    ∙ ap (λ (texts : List (List ℕ)). c.args.into.now.items ++ line (codes "sorts " ++ commas texts))
    (map_twice (λ (s : plain.Sort). s.name) sort_of c.args.sorts.now)
    ∙ ap (λ (text : List ℕ). c.args.into.now.items ++ text) (sym (sorts_filled _ (mapped_some sort_of c.args.sorts.now c.requires))))
    c.push_text-2.ensures
