use Rattle.std.proofs.Common.{◌≡◌, ◌∷◌, ◌++◌, [], List, ◌∙◌, ap, arith, subst, sym}
use Rattle.sort_terms.specs.TermView.{profiled_of}
use Rattle.sort_terms.specs.MadeTerms.{made_of}
use Rattle.sort_terms.proofs.CopyLemmas.{made_more}
use Rattle.path_order.specs.RulesView.{signature_in}
use Rattle.term_store.specs.Made.{AreMadeOf, all_made}
use Rattle.term_store.specs.Numbered.{term_at}
use Rattle.term_store.specs.declared.reading.Making.{Making}
use Rattle.term_store.specs.declared.reading.Making.TheVariants.{Term}
use Rattle.term_store.specs.SharedView.{keys_in}
use Rattle.term_store.proofs.MadeLemmas.{all_done, all_made_next, made_next, turns_next}
use Rattle.term_store.proofs.reading.read.Goals as goal

pub loop-next-init : goal.loop-next-init
loop-next-init c =
    let s = signature_in c.args.rules.now in
    let keys = keys_in c.args.shared.now in
    let all = c.push.new.self.items in record {
      same = ap (λ made. all_made s keys all (made_of made)) c.new-made.ensures.items
          ∙ all_made_next s keys all c.new-left.result.items (Term c.args.number) [] c.in_ok-push.ensures.items
          ∙ ap (λ left. all_made s keys left (term_at s keys c.args.number ∷ [])) c.new-left.ensures.items;
      within = subst (λ (left : List Making). AreMadeOf keys left)
          (sym (c.in_ok-push.ensures.items ∙ ap (λ left. left ++ Term c.args.number ∷ []) c.new-left.ensures.items))
          (c.requires.within, tt);
    }

pub make-requires-clause-within : goal.make-requires-clause-within
make-requires-clause-within c =
    (made_next (keys_in c.args.shared.now) c.loop-next.left.items c.pop.new.self.items c.in-Some.next c.in-Some.ensures.items
    c.loop-next.invariant.within).0

pub loop-next-preserved : goal.loop-next-preserved
loop-next-preserved c = record {
  same = c.in_ok-make.ensures.same
      ∙ sym (all_made_next (signature_in c.args.rules.now) (keys_in c.args.shared.now) c.loop-next.left.items c.pop.new.self.items
      c.in-Some.next (made_of c.loop-next.made.items) c.in-Some.ensures.items)
      ∙ c.loop-next.invariant.same;
  within = c.in_ok-make.ensures.within
      (made_next (keys_in c.args.shared.now) c.loop-next.left.items c.pop.new.self.items c.in-Some.next c.in-Some.ensures.items
      c.loop-next.invariant.within).1;
}

pub loop-next-smaller : goal.loop-next-smaller
loop-next-smaller c =
    let all = turns_next (signature_in c.args.rules.now) (keys_in c.args.shared.now) c.loop-next.left.items c.pop.new.self.items
    c.in-Some.next c.in-Some.ensures.items in
    omega (arith, all, c.in_ok-make.ensures.less)

pub returns : goal.returns
returns c =
    let s = signature_in c.args.rules.now in
    let keys = keys_in c.args.shared.now in
    let made : profiled_of c.in-Some-pop.term ∷ made_of c.pop-2.new.self.items ≡ term_at s keys c.args.number ∷ [] =
    sym (made_more c.loop-next.made.items c.pop-2.new.self.items c.in-Some-pop.term c.in-Some-pop.ensures.items)
    ∙ all_done s keys c.loop-next.left.items (made_of c.loop-next.made.items)
    (let none = c.in_default.ensures.cases.0 in omega (arith, none, c.loop-next.left.ok.0))
    ∙ c.loop-next.invariant.same in
    cc
