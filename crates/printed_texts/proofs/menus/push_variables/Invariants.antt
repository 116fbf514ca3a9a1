use Rattle.std.proofs.Common.{◌≡◌, ◌++◌, drop}
use Rattle.sort_terms.specs.SignatureView.{signature_of}
use Rattle.printed_texts.specs.Brackets.{commas, listed}
use Rattle.printed_texts.specs.MenuText.{sorted_texts}
use Rattle.printed_texts.proofs.menus.push_variables.Given as goal

-- the variables so far are written
abbrev pub invariant-loop-number : goal.invariant-loop-number
invariant-loop-number l =
    l.into.items ++ listed l.number (sorted_texts (signature_of l.signature) l.number (drop l.number l.sorts.items))
    ≡ l.initial.into.items ++ commas (sorted_texts (signature_of l.signature) 0 l.sorts.items)
