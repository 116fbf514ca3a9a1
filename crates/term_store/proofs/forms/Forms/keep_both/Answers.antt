use Rattle.std.proofs.lemmas.Result.{IfOk-weaker}
use Rattle.term_store.proofs.KeptLemmas.{kept_for_both}
use Rattle.term_store.proofs.forms.Forms.keep_both.Goals as goal

pub returns-clause-kept : goal.returns-clause-kept
returns-clause-kept c =
    IfOk-weaker c.keep-2.result _ _
    (λ done is.
    kept_for_both c.args.self.now.kept.items c.keep.new.self.kept.items c.keep-2.new.self.kept.items c.args.term c.args.whole
    c.in_ok-keep.ensures.kept is)
    c.keep-2.ensures.kept
