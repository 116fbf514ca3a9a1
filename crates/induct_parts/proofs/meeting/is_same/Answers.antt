use Rattle.std.proofs.Common.{◌≡◌, ℕ, List, Bor, Vec, Global, [], sym, ap, ◌∙◌, Some}
use Rattle.std.specs.Prelude.{Option}
use Rattle.std.specs.Option.{option_map}
use Rattle.std.proofs.lemmas.Result.{IfOk-weaker}
use Rattle.sort_terms.specs.declared.terms.Term.{Term}
use Rattle.term_match.specs.FoundView.{found_pairs}
use Rattle.induct_parts.specs.Meeting.{are_renamed}
use Rattle.induct_parts.proofs.MeetingLemmas.{searched_for, same_decided, not_same_there}
use Rattle.induct_parts.proofs.meeting.is_same.Goals as goal

pub returns-in-Some : goal.returns-in-Some
returns-in-Some c =
    let found : Some (found_pairs c.in-Some.found.items)
    ≡ searched_for c.args.lemma.now c.args.equation.now =
    ap (λ (o : Option (Vec (ℕ × Bor Term) Global)). option_map (λ (pairs : Vec (ℕ × Bor Term) Global). found_pairs pairs.items) o)
    (sym c.in-Some.is)
    ∙ c.in_ok-found.ensures in
    IfOk-weaker c.are_variables.result _ _
    (λ b told. same_decided c.requires.0 c.args.lemma.now c.args.equation.now c.requires.1 (found_pairs c.in-Some.found.items) b found
    (told
    ∙ ap (λ (sorts : List ℕ). are_renamed sorts [] (found_pairs c.as_slice-in-Some.result.now)) c.as_slice.ensures.value
    ∙ ap (λ (pairs : List (ℕ × Bor Term)). are_renamed c.args.lemma.now.variables.items [] (found_pairs pairs))
    c.as_slice-in-Some.ensures.value))
    c.are_variables.ensures

pub returns-in-None : goal.returns-in-None
returns-in-None c =
    not_same_there c.requires.0 c.args.lemma.now c.args.equation.now c.requires.1
    (ap (λ (o : Option (Vec (ℕ × Bor Term) Global)). option_map (λ (pairs : Vec (ℕ × Bor Term) Global). found_pairs pairs.items) o)
    (sym c.in-None.is)
    ∙ c.in_ok-found.ensures)
