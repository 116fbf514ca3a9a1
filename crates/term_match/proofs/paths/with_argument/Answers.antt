use Rattle.std.proofs.Common.{◌≡◌, ◌+◌, ◌-◌, ◌++◌, length, map, take, drop}
use Rattle.std.proofs.lemmas.Result.{IfOk-weaker}
use Rattle.sort_terms.specs.TermView.{profiled_of}
use Rattle.term_match.proofs.PathLemmas.{put_between, put_pieces}
use Rattle.term_match.proofs.paths.with_argument.Goals as goal

pub returns : goal.returns
returns c =
    let before : map profiled_of c.in_ok-made.made.items
    ≡ map profiled_of c.new.result.items ++ map profiled_of (take c.args.position c.deref.result.now) = c.in_ok-made.ensures in
    IfOk-weaker c.with_copies-2.result _ _
    (λ more is.
    let after : map profiled_of more.items
    ≡ map profiled_of c.push.new.self.items
    ++ map profiled_of (take (length c.deref-2.result.now - (c.args.position + 1)) (drop (c.args.position + 1) c.deref-2.result.now)) =
    is in
    put_between c.args.terms.now.items more.items c.args.position c.args.part c.requires
    (put_pieces c.args.terms.now.items c.new.result.items c.deref.result.now c.in_ok-made.made.items c.push.new.self.items
    c.deref-2.result.now more.items c.args.position c.args.part c.new.ensures.items c.deref.ensures.value c.deref-2.ensures.value
    before c.in_ok-push.ensures.items after))
    c.with_copies-2.ensures
