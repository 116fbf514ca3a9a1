use Rattle.std.proofs.Common.{◌≡◌, ◌∷◌, ◌++◌, List, ℕ, codes, ap, sym, ◌∙◌, subst}
use Rattle.lotos_base.specs.Name.{spelling}
use Rattle.scope_parts.specs.BindingsView.{bindings_in}
use Rattle.scope_parts.specs.Scope.{bind}
use Rattle.flat_text.specs.FreeNames.{with_number}
use Rattle.flat_text.specs.WritingView.{IsLeastUnbound}
use Rattle.flat_text.proofs.GivenLemmas.{have_same}
use Rattle.flat_text.proofs.GivingLemmas.{given_next, have_next}
use Rattle.flat_text.proofs.given_names.Giving.number.Goals as goal

pub returns : goal.returns
returns c = λ earlier taken has.
    let spelled : c.push.new.self.items ≡ spelling c.args.name.now ++ codes "_" =
    c.in_ok-push.ensures.items ∙ ap (λ (w : List ℕ). w ++ codes "_") (c.in_ok-word.ensures.items ∙ c.spelled.ensures) in
    let word : c.as_slice.result.now ≡ spelling c.args.name.now ++ codes "_" = c.as_slice.ensures.value ∙ spelled in
    let again : c.as_slice-2.result.now ≡ spelling c.args.name.now ++ codes "_" = c.as_slice-2.ensures.value ∙ spelled in
    let least : IsLeastUnbound (bindings_in c.args.self.now.taken) (spelling c.args.name.now ++ codes "_") c.args.from
    c.in_ok-number.number =
    subst (λ (w : List ℕ). IsLeastUnbound (bindings_in c.args.self.now.taken) w c.args.from c.in_ok-number.number) word
    c.in_ok-number.ensures.least in
    let made : spelling c.in_ok-given.given ≡ with_number (spelling c.args.name.now ++ codes "_") c.in_ok-number.number =
    c.in_ok-given.ensures ∙ ap (λ (w : List ℕ). with_number w c.in_ok-number.number) again in (
      made ∙ given_next (bindings_in c.args.self.now.earlier) (bindings_in c.args.self.now.taken) earlier taken (spelling c.args.name.now)
          c.args.from c.in_ok-number.number has c.requires least c.in_ok-number.ensures.room,
      have_same _ _ _ _ (spelling c.args.name.now ∷ earlier) taken _
          (with_number (spelling c.args.name.now ++ codes "_") c.in_ok-number.number) c.in_ok-bind.ensures.bound
          (c.in_ok-bind-2.ensures.bound ∙ ap (λ (g : List ℕ). bind g 0 (bindings_in c.args.self.now.taken)) made) made
          (have_next (bindings_in c.args.self.now.earlier) (bindings_in c.args.self.now.taken) earlier taken (spelling c.args.name.now)
          c.args.from c.in_ok-number.number has c.requires least c.in_ok-number.ensures.room),
    )
