use Rattle.std.proofs.Common.{subst}
use Rattle.sort_terms.specs.SortedView.{profiled_in}
use Rattle.sort_terms.specs.TermView.{profiled_of}
use Rattle.sort_terms.specs.declared.terms.Term.{Term}
use Rattle.term_store.specs.Numbered.{TakesIn, IsNumberOfTerm}
use Rattle.term_store.specs.SharedView.{keys_in}
use Rattle.term_store.proofs.CanonicalLemmas.{numbered_stays, canonical_form, own_form}
use Rattle.term_store.proofs.TurnLemmas.{with_shared, stay_on}
use Rattle.term_store.proofs.canonical.canonical.Goals as goal

pub returns-in_err-number-clause-stay : goal.returns-in_err-number-clause-stay
returns-in_err-number-clause-stay c =
    numbered_stays c.args.rules.now c.args.forms.now c.number_of.new.shared (profiled_in c.args.term.now) c.requires.sound c.requires.term
    (subst (λ (t : Term). TakesIn (profiled_of t) (keys_in c.args.forms.now.shared) (keys_in c.number_of.new.shared)) c.term.ensures
    c.number_of.ensures.takes)

pub chosen-requires-clause-sound : goal.chosen-requires-clause-sound
chosen-requires-clause-sound c =
    (numbered_stays c.args.rules.now c.args.forms.now c.number_of.new.shared (profiled_in c.args.term.now) c.requires.sound
    c.requires.term
    (subst (λ (t : Term). TakesIn (profiled_of t) (keys_in c.args.forms.now.shared) (keys_in c.number_of.new.shared)) c.term.ensures
    c.number_of.ensures.takes)).sound

pub returns-in_err-form-clause-stay : goal.returns-in_err-form-clause-stay
returns-in_err-form-clause-stay c =
    stay_on c.args.rules.now c.args.forms.now (with_shared c.args.forms.now c.number_of.new.shared) c.chosen.new.forms
    (numbered_stays c.args.rules.now c.args.forms.now c.number_of.new.shared (profiled_in c.args.term.now) c.requires.sound
    c.requires.term
    (subst (λ (t : Term). TakesIn (profiled_of t) (keys_in c.args.forms.now.shared) (keys_in c.number_of.new.shared)) c.term.ensures
    c.number_of.ensures.takes))
    c.chosen.ensures.stay

pub returns-clause-stay : goal.returns-clause-stay
returns-clause-stay c =
    stay_on c.args.rules.now c.args.forms.now (with_shared c.args.forms.now c.number_of.new.shared) c.chosen.new.forms
    (numbered_stays c.args.rules.now c.args.forms.now c.number_of.new.shared (profiled_in c.args.term.now) c.requires.sound
    c.requires.term
    (subst (λ (t : Term). TakesIn (profiled_of t) (keys_in c.args.forms.now.shared) (keys_in c.number_of.new.shared)) c.term.ensures
    c.number_of.ensures.takes))
    c.chosen.ensures.stay

pub returns-clause-canonical : goal.returns-clause-canonical
returns-clause-canonical c =
    let numbered = subst (λ (t : Term). IsNumberOfTerm (profiled_of t) (keys_in c.args.forms.now.shared) (keys_in c.number_of.new.shared)
    c.in_ok-number.number) c.term.ensures c.in_ok-number.ensures.number in
    canonical_form c.args.rules.now c.args.forms.now c.number_of.new.shared c.chosen.new.forms (profiled_in c.args.term.now)
    c.in_ok-number.number c.in_ok-form.form c.requires.sound c.requires.term numbered c.chosen.ensures.stay c.in_ok-form.ensures.kept

pub returns-clause-own : goal.returns-clause-own
returns-clause-own c own =
    let numbered = subst (λ (t : Term). IsNumberOfTerm (profiled_of t) (keys_in c.args.forms.now.shared) (keys_in c.number_of.new.shared)
    c.in_ok-number.number) c.term.ensures c.in_ok-number.ensures.number in
    own_form c.args.rules.now c.args.forms.now c.number_of.new.shared c.chosen.new.forms (profiled_in c.args.term.now)
    c.in_ok-number.number c.in_ok-form.form c.requires.sound c.requires.term numbered c.chosen.ensures.stay c.in_ok-form.ensures.kept own
