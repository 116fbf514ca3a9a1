use Rattle.std.proofs.Common.{◌≡◌, ◌<◌, ℕ, List, [], ◌∷◌, length, get_or, take, sym, ap, subst, ◌∙◌, arith}
use Rattle.std.proofs.lemmas.List.{take_more}
use Rattle.std.proofs.lemmas.Option.{slice_get-get_or}
use Rattle.std.proofs.Math.Seq.{take-length}
use Rattle.type_definitions.specs.Reaching.{Sees}
use Rattle.type_definitions.proofs.NumberLists.{among_at}
use Rattle.type_definitions.proofs.ReachLemmas.{seen_none, seen_then}
use Rattle.type_definitions.proofs.reach.see.Goals as goal

pub loop-number-init : goal.loop-number-init
loop-number-init c = seen_none c.args.seen.now c.args.work.now.items

pub see_one-requires : goal.see_one-requires
see_one-requires c =
    let n : ℕ = get_or c.args.mentioned.now c.loop-number.number-index 0 in
    let within : n < length c.args.seen.now =
    c.requires n (among_at c.args.mentioned.now c.loop-number.number-index n
    (slice_get-get_or c.args.mentioned.now c.loop-number.number-index 0 c.loop-number-test.true)) in
    let kept : length c.loop-number.seen ≡ length c.args.seen.now = c.loop-number.invariant.as_many in
    subst (λ (k : ℕ). n < k) (sym kept) within

pub loop-number-preserved : goal.loop-number-preserved
loop-number-preserved c =
    subst (λ (ms : List ℕ). Sees ms c.args.seen.now c.args.work.now.items c.see_one.new.seen c.see_one.new.work.items)
    (sym (take_more c.args.mentioned.now c.loop-number.number-index 0 c.loop-number-test.true))
    (seen_then (take c.loop-number.number-index c.args.mentioned.now)
    (get_or c.args.mentioned.now c.loop-number.number-index 0 ∷ []) c.args.seen.now c.args.work.now.items c.loop-number.seen
    c.loop-number.work.items c.see_one.new.seen c.see_one.new.work.items c.loop-number.invariant c.in_ok-see_one.ensures)

pub returns : goal.returns
returns c =
    let whole : c.loop-number.number-index ≡ length c.args.mentioned.now = omega arith in
    subst (λ (ms : List ℕ). Sees ms c.args.seen.now c.args.work.now.items c.loop-number.seen c.loop-number.work.items)
    (ap (λ (n : ℕ). take n c.args.mentioned.now) whole ∙ take-length c.args.mentioned.now) c.loop-number.invariant
