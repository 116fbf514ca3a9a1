use Rattle.std.proofs.Common.{◌≡◌, ◌+◌, ◌<◌, ◌^◌, ℕ, suc, length, arith}
use Rattle.scope_parts.specs.BindingsView.{bindings_in}
use Rattle.flat_text.proofs.TableLemmas.{all_tried}
use Rattle.flat_text.proofs.free_names.least_free.Goals as goal

pub unreachable-requires : goal.unreachable-requires
unreachable-requires c =
    let end : c.in_ok-end.end ≡ suc c.in-Some.last = c.in_ok-end.ensures.next in
    let room : suc c.in-Some.last < 2 ^ 64 = c.in_ok-end.ensures.room in
    let size : c.size.result ≡ length (bindings_in c.args.taken.now) = c.size.ensures in
    let last : c.in-Some.last ≡ c.args.from + c.size.result = omega arith in
    all_tried (bindings_in c.args.taken.now) c.args.word.now c.args.from c.loop-number.number c.in_ok-end.end
    (omega (arith, end, size, last)) (omega (arith, end, room)) c.loop-number-test.false c.loop-number.invariant
