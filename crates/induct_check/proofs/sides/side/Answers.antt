use Rattle.std.proofs.Common.{◌≡◌, [], ◌∷◌, map, subst}
use Rattle.std.proofs.lemmas.Result.{IfOk-weaker}
use Rattle.lotos_base.specs.WrittenView.{written_term_of}
use Rattle.lotos_grammar.specs.HandedOn.{IsTermsReading, NoMemory}
use Rattle.induct_check.proofs.OutcomeLemmas.{match_more}
use Rattle.induct_check.proofs.sides.side.Goals as goal

pub returns-in-Ok : goal.returns-in-Ok
returns-in-Ok c =
    IfOk-weaker c.one_side.result _ _
    (λ found h. match_more _ _ _ _ found
    (λ none side is. none side
    (c.texts_have_one_outcome.ensures.terms.one_tree 0 c.args.text.now (map written_term_of c.in-Ok.terms.items) (side ∷ []) c.in-Ok.ensures
    is.read) is.known)
    (λ term both. record {
      read = subst (λ terms. IsTermsReading 0 c.args.text.now terms) both.0 c.in-Ok.ensures;
      known = both.1;
    })
    h)
    c.one_side.ensures

pub returns-in-Err-TooDeep : goal.returns-in-Err-TooDeep
returns-in-Err-TooDeep c = λ side is.
    let none : c.in-Err-TooDeep.field-0 ≡ NoMemory =
    c.texts_have_one_outcome.ensures.terms.not_both 0 c.args.text.now
    (side ∷ []) c.in-Err-TooDeep.field-0 is.read c.in-Err-TooDeep.ensures in
    cc (none, c.in-Err-TooDeep.field-0-is)
