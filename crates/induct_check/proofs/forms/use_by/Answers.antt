use Rattle.std.proofs.Common.{[], map, ap, sym, ◌∙◌}
use Rattle.std.proofs.lemmas.List.{length-map}
use Rattle.induct_check.specs.CertificateLines.{use_by}
use Rattle.induct_check.proofs.UseWords.{not_five, five_words, same_use}
use Rattle.induct_check.proofs.forms.use_by.Goals as goal

pub returns-then-words-ne5 : goal.returns-then-words-ne5
returns-then-words-ne5 c =
    not_five (map (λ word. word.now) c.args.words.now)
    (λ five. c.if-words-ne5.true (sym (length-map c.args.words.now (λ word. word.now)) ∙ five))

pub returns : goal.returns
returns c =
    c.use_from.ensures
    ∙ (same_use _ _ _ _ _ _ _ _ c.source_named.ensures c.side_named.ensures c.in_ok-path.ensures c.direction_named.ensures
    ∙ sym (ap use_by (five_words (λ word. word.now) c.args.words.now (record { ref_ptr = (0, 0); now = [] })
    c.if-words-ne5.false)))
