-- The steps of the code are those of the run.
use Rattle.std.proofs.Common.{◌≡◌, ◌∙◌, ℕ, ◌+◌, length, Bool, List, [], ◌∷◌, ◌++◌, take, drop, reverse, refl, ap, sym}
use Rattle.std.specs.Prelude.{Option, Some, None, MatchOption, option_map, option_and_then, option_to_list, slice_get}
use Rattle.std.proofs.lemmas.List.{reverse-append, nil_from_length}
use Rattle.ll_engine.specs.declared.symbol.Symbol.{Symbol}
use Rattle.ll_engine.specs.Derivation.{Production}
use Rattle.ll_engine.specs.Fold.{begins_kept, first_if, first_value}
use Rattle.ll_engine.specs.Run.{from_last, count_parts, Work, work, rest_if, step, step_of, run}
use Rattle.ll_engine.proofs.Stacks.{plain_taken, plain_left, from_last_more, from_last_none}

module _ {T A V : Type 0} (meaning : V → A) (value_of : ℕ → Option T → List A → Option A) (keeps : ℕ → Bool) where
  built_step : (below : List A) (ahead : List T) (built : Option V) →
      option_map (λ value. work (meaning value ∷ below) ahead) built ≡ option_and_then (λ value. Some (work (value ∷ below) ahead))
      (option_map meaning built)
  built_step below ahead None = refl
  built_step below ahead (Some value) = refl

  -- the values of the parts and the token are taken, and the row's value is built
  pub row_step : (number : ℕ) (right : List Symbol) (old new parts : List V) (ahead rest : List T) (token : Option T) (built : Option V) →
      option_map meaning built ≡ value_of number token (from_last meaning parts) → token ≡ first_if (begins_kept keeps right) ahead
      → rest ≡ rest_if (begins_kept keeps right) ahead →
      reverse parts ≡ take (count_parts right) (reverse old) → reverse new ≡ drop (count_parts right) (reverse old) →
      option_map (λ value. work (meaning value ∷ from_last meaning new) rest) built ≡ step value_of keeps number right
      (work (from_last meaning old) ahead)
  row_step number right old new parts ahead rest token built built_is token_is rest_is taken left =
      let count = count_parts right in
      built_step (from_last meaning new) rest built
      ∙ ap (λ (l : List A). option_and_then (λ value. Some (work (value ∷ l) rest)) (option_map meaning built))
      (plain_left meaning new old count left)
      ∙ ap (λ (l : List T). option_and_then (λ value. Some (work (value ∷ drop count (from_last meaning old)) l))
      (option_map meaning built)) rest_is
      ∙ ap (option_and_then (λ value. Some (work (value ∷ drop count (from_last meaning old)) (rest_if (begins_kept keeps right) ahead))))
      (built_is ∙ ap (λ (o : Option T). value_of number o (from_last meaning parts)) token_is
      ∙ ap (value_of number (first_if (begins_kept keeps right) ahead)) (plain_taken meaning parts old count taken))

  -- one row more
  pub run_more : (rows : List Production) (old new : List ℕ) (number : ℕ) (right : List Symbol) (before after : Work T A)
      → old ≡ new ++ number ∷ [] →
      Some right ≡ option_map (λ (row : Production). row.right) (slice_get rows number)
      → Some after ≡ step value_of keeps number right before →
      run value_of keeps rows (reverse new) after ≡ run value_of keeps rows (reverse old) before
  run_more rows old new number right before after last right_is step_is =
      sym (ap (λ (l : List ℕ). run value_of keeps rows l before) (ap reverse last ∙ reverse-append new (number ∷ []))
      ∙ ap (option_and_then (run value_of keeps rows (reverse new))) (by_row (slice_get rows number) right_is ∙ sym step_is))
    where
      by_row : (found : Option Production) → Some right ≡ option_map (λ (row : Production). row.right) found
          → step_of value_of keeps number found before ≡ step value_of keeps number right before
      by_row None is = absurd (cc)
      by_row (Some row) is = let same : right ≡ row.right = cc in ap (λ (symbols : List Symbol).
          step value_of keeps number symbols before) (sym same)

  -- the value on top
  pub top_value : (values rest : List V) (top : Option V) (len left : ℕ) → len ≡ length values → values ≡ rest ++ option_to_list top →
      MatchOption top ((len ≡ 0) × (left ≡ 0)) (λ _. left + 1 ≡ len) → option_map meaning top ≡ first_value (from_last meaning values)
  top_value values rest None len left len_is is cases =
      sym (ap (λ (l : List V). first_value (from_last meaning l)) (nil_from_length values (sym len_is ∙ cases.0))
      ∙ ap first_value (from_last_none meaning))
  top_value values rest (Some x) len left len_is is cases =
      sym (ap (λ (l : List V). first_value (from_last meaning l)) is ∙ ap first_value (from_last_more meaning rest x))
