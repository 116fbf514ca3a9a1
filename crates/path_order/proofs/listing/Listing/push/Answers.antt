use Rattle.std.proofs.Common.{◌≡◌, ℕ, List, length, ap, sym, ◌∙◌, subst, arith, true}
use Rattle.std.specs.Prelude.{Some, slice_get}
use Rattle.std.proofs.lemmas.List.{length-set}
use Rattle.path_order.specs.Contains.{contains, IsOnce}
use Rattle.path_order.proofs.Numbers.{flag_more, below_more, once_more}
use Rattle.path_order.proofs.listing.Listing.push.Goals as goal

pub invariant_of-self-2 : goal.invariant_of-self-2
invariant_of-self-2 c = record {
  told = λ f within.
      flag_more c.args.self.now.listed.items c.args.self.now.order.items c.args.op f c.requires.below within c.args.self.now.told
      ∙ ap (λ (xs : List ℕ). contains f xs) (sym c.in_ok-push.ensures.items);
  below = λ j f at.
      let old = subst (λ (xs : List ℕ). slice_get xs j ≡ Some f) c.in_ok-push.ensures.items at in
      let less = below_more (length c.args.self.now.listed.items) c.args.self.now.order.items c.args.op j f c.args.self.now.below
      c.requires.below old in
      let long = length-set c.args.self.now.listed.items c.args.op true in omega (arith, less, long);
  once = subst (λ (xs : List ℕ). IsOnce xs) (sym c.in_ok-push.ensures.items)
      (once_more c.args.self.now.order.items c.args.op c.args.self.now.once c.requires.new);
  even = length-set c.args.self.now.statuses.items c.args.op c.args.status ∙ c.args.self.now.even
      ∙ sym (length-set c.args.self.now.listed.items c.args.op true);
}
