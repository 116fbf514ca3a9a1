use Rattle.std.proofs.Common.{sym, ◌∙◌, subst}
use Rattle.std.proofs.lemmas.Result.{IfOk-weaker}
use Rattle.sort_terms.specs.ProfiledTerm.{ProfiledTerm, IsOf}
use Rattle.sort_terms.specs.SortedView.{profiled_in, term_in}
use Rattle.induct_parts.proofs.PutLemmas.{put_keeps_sorts, put_made, put_over, occurring_known}
use Rattle.induct_parts.proofs.statements.put_in.Goals as goal

pub apply-requires : goal.apply-requires
apply-requires c = record {
  keeps_sorts = λ n s o.
      put_keeps_sorts c.args.number c.args.term.now (term_in c.args.whole.now) c.in_ok-subst.subst.pairs.items c.in_ok-subst.ensures
      c.requires n s o;
}

pub returns-clause-made : goal.returns-clause-made
returns-clause-made c =
    IfOk-weaker c.apply.result _ _
    (λ t is. is ∙ put_made c.args.number c.args.term.now (term_in c.args.whole.now) c.in_ok-subst.subst.pairs.items c.in_ok-subst.ensures
    c.requires)
    c.apply.ensures.instance

pub returns-clause-over : goal.returns-clause-over
returns-clause-over c =
    IfOk-weaker c.apply.result _ _
    (λ t is signature over put. subst (λ (p : ProfiledTerm). IsOf signature p) (sym is)
    (put_over signature c.args.number c.args.term.now c.args.whole.now c.in_ok-subst.subst.pairs.items c.in_ok-subst.ensures over put
    (λ n s o. occurring_known signature (profiled_in c.args.whole.now) n s over o)))
    c.apply.ensures.profiles
