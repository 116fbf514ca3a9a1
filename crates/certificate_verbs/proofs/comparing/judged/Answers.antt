use Rattle.std.proofs.Common.{ℕ, List, sym, subst}
use Rattle.sort_terms.specs.EquationView.{data_of}
use Rattle.command_words.specs.HandedOn.{IsOverSame, BeginsOver}
use Rattle.sort_terms.specs.declared.equations.Flat.{Flat}
use Rattle.certificate_verbs.proofs.ComparingLemmas.{over_same}
use Rattle.certificate_verbs.proofs.comparing.judged.Goals as goal

pub returns : goal.returns
returns c = λ first other now h k.
    let here : IsOverSame c.args.second.now.text.items c.args.one.now.accepted.book.flat other =
    over_same other c.args.one.now c.args.second.now k c.requires.same in
    let there : IsOverSame c.as_slice.result.now c.flat.result.now other =
    subst (λ (t : List ℕ). IsOverSame t c.flat.result.now other) (sym c.as_slice.ensures.value)
    (subst (λ (f : Flat). IsOverSame c.args.second.now.text.items f other) (sym c.flat.ensures) here) in
    c.verdict.ensures first other now h k
    (subst (λ (f : Flat). BeginsOver (data_of f).signature other c.in_ok-begun.begun) c.flat.ensures
    (c.in_ok-begun.ensures other there))
