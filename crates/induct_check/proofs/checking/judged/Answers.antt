use Rattle.std.proofs.Common.{List, subst, sym}
use Rattle.std.proofs.lemmas.Result.{IfOk-weaker, IfErr-weaker}
use Rattle.lotos_base.proofs.Each.{Each}
use Rattle.sort_terms.specs.SignatureView.{signature_of}
use Rattle.induct_parts.specs.SettingView.{IsKnownLemma, known_theory}
use Rattle.induct_parts.specs.declared.certificates.StatedLemma.{StatedLemma}
use Rattle.induct_check.specs.ReadingView.{read_text}
use Rattle.induct_check.proofs.JudgeLemmas.{stops_right, first_told}
use Rattle.induct_check.proofs.checking.judged.Goals as goal

pub returns-in-Ok-clause-refused : goal.returns-in-Ok-clause-refused
returns-in-Ok-clause-refused g c =
    let theory = known_theory (g.D.Deciding.known_data c.args.data_.now) c.args.rules.now (g.D.Deciding.canon c.args.data_.now) in
    IfErr-weaker c.accepted.result _ _
    (λ at h text comes. stops_right c.first_faults_are_one.ensures.none theory (signature_of c.args.signature.now) text
    (read_text c.args.read) h.0 at c.requires.same_signature h.1 h.2 h.3 c.in-Ok.ensures.certified comes)
    c.accepted.ensures.stop

pub returns-in-Err-clause-refused : goal.returns-in-Err-clause-refused
returns-in-Err-clause-refused g c = λ text comes.
    let theory = known_theory (g.D.Deciding.known_data c.args.data_.now) c.args.rules.now (g.D.Deciding.canon c.args.data_.now) in
    first_told c.first_faults_are_one.ensures.one theory (signature_of c.args.signature.now) text (read_text c.args.read) c.in-Err.at
    c.first_fault.result c.requires.same_signature c.in-Err.ensures.refused c.first_fault.ensures comes

pub returns-in-Ok-clause-known : goal.returns-in-Ok-clause-known
returns-in-Ok-clause-known g c =
    IfOk-weaker c.accepted.result _ _
    (λ lemmas h. subst (λ (ls : List StatedLemma). Each (IsKnownLemma (signature_of c.args.signature.now)) ls) (sym h)
    c.requires.known.lemmas)
    c.accepted.ensures.same
