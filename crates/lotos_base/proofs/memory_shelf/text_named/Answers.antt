use Rattle.std.proofs.Common.{◌≡◌, List, ℕ, Some, ap, ◌∙◌}
use Rattle.lotos_base.proofs.TextUnder.{text_under-first}
use Rattle.lotos_base.proofs.memory_shelf.text_named.Goals as goal

pub returns : goal.returns
returns c =
    let file = c.index-files-index.result in
    let value : c.as_slice.result.now ≡ file.1.items = cc in
    ap (λ (text : List ℕ). Some text) value
    ∙ text_under-first c.args.files.now c.in_ok-index.index file c.args.name.now c.in_ok-index.ensures c.index-files-index.is
