use Rattle.std.proofs.Common.{◌<◌, length, arith}
use Rattle.term_store.proofs.KeptLemmas.{kept_for}
use Rattle.term_store.proofs.forms.Forms.keep.Goals as goal

pub returns-clause-kept : goal.returns-clause-kept
returns-clause-kept c =
    let inside : c.args.number < length c.loop-self.self.kept.items = omega (arith, c.loop-self-test.false) in
    kept_for c.args.self.now.kept.items c.loop-self.self.kept.items c.args.number c.args.form c.loop-self.invariant.1 inside
