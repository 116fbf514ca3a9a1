use Rattle.std.proofs.Common.{ap, ◌∙◌, ◌∷◌, ◌<◌, ◌+◌, subst, sym, arith}
use Rattle.std.proofs.lemmas.Result.{on_ok_weaker}
use Rattle.sort_terms.specs.MadeTerms.{made_of}
use Rattle.sort_terms.specs.Operations.{operation_of}
use Rattle.sort_terms.specs.ProfiledTerm.{profiled_node}
use Rattle.sort_terms.specs.TermView.{all_profiled, profiled_of}
use Rattle.sort_terms.proofs.CopyLemmas.{head_copied, made_more}
use Rattle.event_offers.specs.Rebuilt.{rebuilt_by, turns, turns_of, with_rebuilt}
use Rattle.event_offers.specs.declared.rebuilding.Rebuilding.{Rebuilding}
use Rattle.event_offers.specs.declared.rebuilding.Rebuilding.TheVariants.{Head}
use Rattle.event_offers.proofs.rebuilding.rebuild.Goals as goal

pub returns-in-First-clause-same : goal.returns-in-First-clause-same
returns-in-First-clause-same g c =
    let values = g.R.Replacing.put_for c.args.values.now in
    on_ok_weaker c.begin_last.result
    (λ h. h ∙ ap (λ next. rebuilt_by values c.args.left.now.items (with_rebuilt values next (made_of c.args.made.now.items)))
    (sym c.in-First.is))
    c.begin_last.ensures.same

pub returns-in-First-clause-less : goal.returns-in-First-clause-less
returns-in-First-clause-less g c =
    on_ok_weaker c.begin_last.result
    (λ h. subst (λ (next : Rebuilding). turns_of c.begin_last.new.left.items < turns next + turns_of c.args.left.now.items)
    (sym c.in-First.is) h)
    c.begin_last.ensures.less

pub returns-in_ok-push-in-Head-clause-same : goal.returns-in_ok-push-in-Head-clause-same
returns-in_ok-push-in-Head-clause-same g c =
    let values = g.R.Replacing.put_for c.args.values.now in
    let rest = c.taken.new.made.items in
    let arguments = c.in_ok-parts-in-Head.parts in
    ap (rebuilt_by values c.args.left.now.items)
    (made_more c.push.new.self.items rest c.in_ok-term-in-Head.term c.in_ok-push-in-Head.ensures.items
    ∙ ap (λ t. t ∷ made_of rest) (ap profiled_of c.in_ok-term-in-Head.ensures)
    ∙ ap (λ value. profiled_node c.in-Head.op (operation_of value) (all_profiled arguments.items) ∷ made_of rest)
    c.in_ok-clone-in-Head.ensures.cases
    ∙ sym (head_copied c.in-Head.op c.in-Head.count c.in-Head.profile.now arguments.items (made_of rest)
    (sym c.in_ok-parts-in-Head.ensures.0))
    ∙ ap (with_rebuilt values (Head c.in-Head.op c.in-Head.profile c.in-Head.count)) (sym c.in_ok-parts-in-Head.ensures.1)
    ∙ ap (λ next. with_rebuilt values next (made_of c.args.made.now.items)) (sym c.in-Head.is))

pub returns-in_ok-push-in-Head-clause-less : goal.returns-in_ok-push-in-Head-clause-less
returns-in_ok-push-in-Head-clause-less g c =
    subst (λ (next : Rebuilding). turns_of c.args.left.now.items < turns next + turns_of c.args.left.now.items) (sym c.in-Head.is)
    (omega arith)
