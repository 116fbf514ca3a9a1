use Rattle.std.proofs.Common.{ap, ◌∙◌, subst}
use Rattle.lotos_base.proofs.Each.{Each}
use Rattle.lotos_base.specs.Signature.{Signature}
use Rattle.std.proofs.lemmas.Result.{IfOk-weaker, IfErr-weaker}
use Rattle.path_order.specs.RulesView.{rules_in}
use Rattle.sort_terms.specs.EquationView.{data_of}
use Rattle.induct_parts.specs.CertificateView.{lemmas_in}
use Rattle.induct_parts.specs.FaultView.{HoldsAtLine}
use Rattle.induct_parts.specs.SettingView.{IsKnownLemma}
use Rattle.induct_check.specs.CheckView.{IsCertifiedText}
use Rattle.induct_check.specs.TextFaults.{IsTextFault}
use Rattle.induct_check.proofs.BookLemmas.{rules_of_book, theory_of_book}
use Rattle.induct_check.proofs.books.check_text.Goals as goal

pub check_lemmas-requires-clause-rules_of : goal.check_lemmas-requires-clause-rules_of
check_lemmas-requires-clause-rules_of c =
    rules_of_book c.args.book.now c.in_ok-rules.rules (c.in_ok-rules.ensures.rules ∙ ap rules_in c.rules.ensures)

pub returns-clause-certified : goal.returns-clause-certified
returns-clause-certified c =
    IfOk-weaker c.check_lemmas.result _ _
    (λ lemmas h. subst (λ theory. IsCertifiedText theory c.args.text.now (lemmas_in lemmas.items))
    (theory_of_book c.args.book.now c.in_ok-rules.rules (c.in_ok-rules.ensures.rules ∙ ap rules_in c.rules.ensures)) h)
    c.check_lemmas.ensures.certified

pub returns-clause-refused : goal.returns-clause-refused
returns-clause-refused c =
    IfErr-weaker c.check_lemmas.result _ _
    (λ at h. subst (λ theory. HoldsAtLine (IsTextFault theory c.args.text.now) at)
    (theory_of_book c.args.book.now c.in_ok-rules.rules (c.in_ok-rules.ensures.rules ∙ ap rules_in c.rules.ensures)) h)
    c.check_lemmas.ensures.refused

pub returns-clause-known : goal.returns-clause-known
returns-clause-known c =
    IfOk-weaker c.check_lemmas.result _ _
    (λ lemmas h. subst (λ (signature : Signature). Each (IsKnownLemma signature) lemmas.items)
    (c.in_ok-signature.ensures ∙ ap (λ flat. (data_of flat).signature) c.flat.ensures) h)
    c.check_lemmas.ensures.known
