use Rattle.std.proofs.Common.{◌≡◌, ℕ, List, [], refl, ap, sym, ◌∙◌, arith}
use Rattle.std.proofs.Math.Path.{fun_ext}
use Rattle.std.proofs.lemmas.List.{nil_from_length}
use Rattle.std.proofs.lemmas.Result.{IfOk-weaker}
use Rattle.lotos_base.specs.Substitution.{binding, substituted}
use Rattle.lotos_base.specs.Term.{Term, variable}
use Rattle.lotos_base.proofs.SubstitutionLemmas.{substituted_variables}
use Rattle.sort_terms.specs.SortedView.{term_in}
use Rattle.sort_terms.specs.declared.sorted.Sorted.{Sorted}
use Rattle.behaviour_tree.specs.StateView.{environment_of}
use Rattle.draft_parts.proofs.environments.canonical.Goals as goal

-- an empty environment puts nothing in
nothing_placed : (pairs : List (ℕ × Sorted)) (t : Term) → pairs ≡ [] → substituted (binding (environment_of pairs)) t ≡ t
nothing_placed pairs t none =
    ap (λ (ps : List (ℕ × Sorted)). substituted (binding (environment_of ps)) t) none
    ∙ ap (λ (values : ℕ → ℕ → Term). substituted values t) nothing_put
    ∙ substituted_variables t
  where
    nothing_put : binding [] ≡ variable
    nothing_put = fun_ext (λ n. fun_ext (λ s. refl))

pub normal-requires : goal.normal-requires
normal-requires g c = c.requires.term

pub returns-then-len-eq0-clause-same : goal.returns-then-len-eq0-clause-same
returns-then-len-eq0-clause-same g c =
    IfOk-weaker c.normal.result _ _ (λ t e. e ∙ ap (g.D.Deciding.canon c.args.decider.now)
    (sym (nothing_placed c.args.environment.now.items (term_in c.args.term.now)
    (nil_from_length c.args.environment.now.items (omega (arith, c.if-len-eq0.true, c.len.ensures, c.args.environment.now.ok.0))))))
    c.normal.ensures.is_canon

pub normal-requires-2 : goal.normal-requires-2
normal-requires-2 g c = c.in_ok-made.ensures.over (g.D.Deciding.known_data c.args.decider.now).signature c.requires

pub returns-clause-same : goal.returns-clause-same
returns-clause-same g c =
    IfOk-weaker c.normal-2.result _ _ (λ t e. e ∙ ap (g.D.Deciding.canon c.args.decider.now) c.in_ok-made.ensures.same)
    c.normal-2.ensures.is_canon
