use Rattle.std.proofs.Common.{List, ℕ, Bor, option_map, sym, ap, subst, ◌∙◌}
use Rattle.std.proofs.lemmas.Result.{IfOk-weaker}
use Rattle.demo_walks.specs.HandedOn.{unread_text}
use Rattle.command_words.specs.HandedOn.{refused_of, NotAccepted}
use Rattle.certificate_verbs.specs.Printed.{IsFaultPrinted, print_in}
use Rattle.certificate_verbs.specs.declared.ended.Ended.TheVariants.{FileFault}
use Rattle.certificate_verbs.proofs.PrintedLemmas.{print_is, some_print}
use Rattle.certificate_verbs.proofs.printing.failed_alone.Goals as goal

pub returns-in-File : goal.returns-in-File
returns-in-File c = IfOk-weaker c.unread_alone.result _ _ (λ alone made.
    subst (λ (f : NotAccepted). IsFaultPrinted c.args.spec.now (option_map (λ (word : Bor (List ℕ)). word.now) c.args.order) f
    (print_in alone)) (sym c.in-File.is)
    (print_is alone (unread_text c.in-File.name.items) FileFault (made.0 ∙ ap unread_text c.as_slice.ensures.value) made.1))
    c.unread_alone.ensures

pub returns-in-Spec : goal.returns-in-Spec
returns-in-Spec c = IfOk-weaker c.refused_alone.result _ _ (λ alone made.
    subst (λ (f : NotAccepted). IsFaultPrinted c.args.spec.now (option_map (λ (word : Bor (List ℕ)). word.now) c.args.order) f
    (print_in alone)) (sym c.in-Spec.is)
    (some_print (refused_of c.in-Spec.refused) alone c.args.spec.now
    (option_map (λ (word : Bor (List ℕ)). word.now) c.args.order) c.order_name.result.now c.order_name.ensures made.0 made.1))
    c.refused_alone.ensures
