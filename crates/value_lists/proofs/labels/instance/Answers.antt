use Rattle.std.proofs.Common.{ap, ◌∙◌, sym, subst}
use Rattle.std.proofs.Math.Path.{fun_ext}
use Rattle.std.proofs.lemmas.Result.{IfOk-weaker}
use Rattle.lotos_base.specs.Substitution.{Substitution, substituted}
use Rattle.sort_terms.specs.ProfiledTerm.{IsOf}
use Rattle.sort_terms.specs.SortedView.{profiled_in, term_in}
use Rattle.event_offers.proofs.ValueLemmas.{listed_put_of, listed_bare}
use Rattle.value_lists.proofs.labels.instance.Goals as goal

pub normal-requires : goal.normal-requires
normal-requires g c = subst (IsOf (g.D.Deciding.known_data c.args.decider.now).signature) (sym c.in_ok-made.ensures.profiles)
    (listed_put_of (g.D.Deciding.known_data c.args.decider.now).signature c.args.values.now (profiled_in c.args.term.now)
    c.requires.values c.requires.term)

pub returns-clause-same : goal.returns-clause-same
returns-clause-same g c =
    IfOk-weaker c.normal.result _ _ (λ t e. e ∙ ap (g.D.Deciding.canon c.args.decider.now) (c.in_ok-made.ensures.same
    ∙ ap (λ (v : Substitution). substituted v (term_in c.args.term.now))
    (fun_ext (λ n. fun_ext (λ s. listed_bare c.args.values.now n s))))) c.normal.ensures.is_canon
