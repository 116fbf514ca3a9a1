use Rattle.std.proofs.Common.{◌+◌, take, sym, subst, arith, nat_eq}
use Rattle.lotos_base.specs.Term.{no_terms}
use Rattle.sort_terms.specs.Known.{HoldOfAll}
use Rattle.sort_terms.specs.TermView.{bare_terms_of}
use Rattle.sort_terms.specs.declared.facts.Facts.{Facts}
use Rattle.sort_terms.proofs.FactLemmas.{next_known, no_terms_hold}
use Rattle.sort_terms.proofs.terms.facts_of.Goals as goal

pub loop-i-init : goal.loop-i-init
loop-i-init c = subst (λ (facts : Facts). HoldOfAll facts no_terms) (sym c.of_no_terms-facts.ensures) no_terms_hold

pub loop-i-preserved : goal.loop-i-preserved
loop-i-preserved c =
    subst (λ (facts : Facts). HoldOfAll facts (bare_terms_of (take (c.loop-i.i + 1) c.args.terms.now.items)))
    (sym c.with-facts.ensures)
    (next_known c.loop-i.facts c.facts.result (nat_eq (c.loop-i.i + 1) c.len.result) c.args.terms.now.items c.loop-i.i c.index.result.now
    (omega arith) c.index.ensures c.loop-i.invariant c.facts.ensures)
