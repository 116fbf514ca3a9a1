use Rattle.std.proofs.Common.{sym, subst, ap, ◌∙◌}
use Rattle.std.proofs.Math.Path.{fun_ext}
use Rattle.std.proofs.lemmas.Result.{IfOk-weaker}
use Rattle.lotos_base.specs.Substitution.{substituted}
use Rattle.sort_terms.specs.ProfiledTerm.{IsOf}
use Rattle.sort_terms.specs.SortedView.{profiled_in, term_in}
use Rattle.draft_solving.proofs.PutLemmas.{one_put_of, one_suits, one_bare}
use Rattle.draft_solving.proofs.changing.put_one.Goals as goal

pub put_into-requires : goal.put_into-requires
put_into-requires c = one_suits c.args.found.now (profiled_in c.args.term.now) c.requires

pub returns-clause-same : goal.returns-clause-same
returns-clause-same c =
    IfOk-weaker c.put_into.result _ _ (λ t e. e ∙ ap (λ v. substituted v (term_in c.args.term.now))
    (fun_ext (λ n. fun_ext (λ s. one_bare c.args.found.now n s)))) c.put_into.ensures.same

pub returns-clause-is_of : goal.returns-clause-is_of
returns-clause-is_of c =
    IfOk-weaker c.put_into.result _ _ (λ t e signature h k. subst (IsOf signature) (sym e)
    (one_put_of signature (profiled_in c.args.term.now) c.args.found.now.0 (profiled_in c.args.found.now.1) h k))
    c.put_into.ensures.profiles
