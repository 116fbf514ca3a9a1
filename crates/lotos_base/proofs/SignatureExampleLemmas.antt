-- The cases of signatures and equations, well formed and not.
use Rattle.std.proofs.Common.{◌≡◌, ℕ, ◌<◌, List, [], ◌∷◌, refl, sym, ◌∙◌, arith, inl, inr}
use Rattle.std.specs.Prelude.{Some, slice_get}
use Rattle.std.proofs.lemmas.Option.{none-some}
use Rattle.lotos_base.specs.Signature.{Sort, Operation, prefix_form, infix_form, IsSort, IsWellFormedSignature}
use Rattle.lotos_base.specs.Term.{variable}
use Rattle.lotos_base.specs.Equation.{OccursIn, HasOneSort, HasOneSortPerNumber}
use Rattle.lotos_base.specs.SmallData.{example_equation, idle_signature, a_term, b_term, f_term}
use Rattle.lotos_base.specs.Examples.{overloaded_signature, undeclared_x, two_sorts_of_x, SignatureExamples, TwinExamples, SortedDataExamples}
use Rattle.lotos_base.proofs.ExampleHelpers.{one_position, one_named}
use Rattle.lotos_base.proofs.SortLemmas.{one_sort}
use Rattle.lotos_base.proofs.Each.{each_member}

-- the operations have one form and one profile
abbrev Alike : Operation → Operation → Type 0
Alike o p = (o.form ≡ p.form) × (o.arguments ≡ p.arguments) × (o.result ≡ p.result)

overloaded_fine : IsWellFormedSignature overloaded_signature
overloaded_fine = record {
  results = λ f o e. each_member (λ (o : Operation). IsSort overloaded_signature o.result) overloaded_signature.operations f o
      (omega arith, (omega arith, (omega arith, (omega arith, tt)))) e;
  arguments = λ f i s o e d. each_member (λ (o : Operation). (i s : ℕ) → slice_get o.arguments i ≡ Some s → IsSort overloaded_signature s)
      overloaded_signature.operations f o (
        (λ i s d. cc),
        (
          (λ i s d. cc),
          (
            (λ i s d. each_member (IsSort overloaded_signature) (0 ∷ 0 ∷ []) i s (omega arith, (omega arith, tt)) d),
            ((λ i s d. each_member (IsSort overloaded_signature) (0 ∷ 0 ∷ []) i s (omega arith, (omega arith, tt)) d), tt),
          ),
        ),
      ) e i s d;
  sort_names = λ i j s t e d a. one_named (λ (s : Sort). s.name) overloaded_signature.sorts i j s t refl e d a;
  profiles = λ f g o p e d name form arguments result. one_position Alike overloaded_signature.operations f g o p (
    (
      ((λ h. let r : ◌≡◌ {A = ℕ} 0 1 = h.2 in cc), (λ h. let r : ◌≡◌ {A = ℕ} 1 0 = h.2 in cc)),
      (
        ((λ h. let r : ◌≡◌ {A = List ℕ} [] (0 ∷ 0 ∷ []) = h.1 in cc), (λ h. let r : ◌≡◌ {A = List ℕ} (0 ∷ 0 ∷ []) [] = h.1 in cc)),
        (((λ h. let r : ◌≡◌ {A = List ℕ} [] (0 ∷ 0 ∷ []) = h.1 in cc), (λ h. let r : ◌≡◌ {A = List ℕ} (0 ∷ 0 ∷ []) [] = h.1 in cc)), tt),
      ),
    ),
    (
      (
        ((λ h. let r : ◌≡◌ {A = List ℕ} [] (0 ∷ 0 ∷ []) = h.1 in cc), (λ h. let r : ◌≡◌ {A = List ℕ} (0 ∷ 0 ∷ []) [] = h.1 in cc)),
        (((λ h. let r : ◌≡◌ {A = List ℕ} [] (0 ∷ 0 ∷ []) = h.1 in cc), (λ h. let r : ◌≡◌ {A = List ℕ} (0 ∷ 0 ∷ []) [] = h.1 in cc)), tt),
      ),
      ((((λ h. let r : prefix_form ≡ infix_form = h.0 in cc), (λ h. let r : infix_form ≡ prefix_form = h.0 in cc)), tt), (tt, tt)),
    ),
  ) e d (form, arguments, result);
}

pub signature_examples : SignatureExamples
signature_examples = record {
  overloaded = overloaded_fine;
  sort_twice = λ h. let same : ◌≡◌ {A = ℕ} 0 1 = h.sort_names 0 1 _ _ refl refl refl in cc;
  operation_twice = λ h. let same : ◌≡◌ {A = ℕ} 0 1 = h.profiles 0 1 _ _ refl refl refl refl refl refl in cc;
  sort_in_two_cases = λ h. let same : ◌≡◌ {A = ℕ} 0 1 = h.sort_names 0 1 _ _ refl refl refl in cc;
  operation_in_two_cases = λ h. let same : ◌≡◌ {A = ℕ} 0 1 = h.profiles 0 1 _ _ refl refl refl refl refl refl in cc;
  no_result = λ h. let below : 1 < 1 = h.results 0 _ refl in absurd (omega arith);
  no_argument = λ h. let below : 1 < 1 = h.arguments 0 0 1 _ refl refl in absurd (omega arith);
  two_sorts = λ h.
      let left : 0 ≡ h.sort = one_sort idle_signature a_term 0 h.sort (_, refl, refl, tt) h.left_sort in
      let right : 1 ≡ h.sort = one_sort idle_signature b_term 1 h.sort (_, refl, refl, tt) h.right_sort in
      absurd (omega arith);
  undeclared = λ h. let declared = h.left_declared 0 0 (inl (refl, refl)) in none-some declared.1 declared.2;
  undeclared_right = λ h. let declared = h.right_declared 0 0 (inl (refl, refl)) in none-some declared.1 declared.2;
  no_sort = λ h. let below : 3 < 3 = h.variable_sorts 0 3 (0, _, refl, refl, refl) in absurd (omega arith);
  declared_twice = λ h. let same : ◌≡◌ {A = ℕ} 0 1 = h.numbers 0 1 _ _ refl refl refl in cc;
}

pub twin_examples : TwinExamples
twin_examples = record {
  twins = refl;
  two_forms = refl;
  one_result = refl;
  other_arguments = refl;
  other_name = refl;
  first_constant = refl;
  prefix_operation = refl;
}

-- x occurs in f(x) = x with the sort 0 alone
x_of_one_sort : (n s : ℕ) → OccursIn (example_equation [] (f_term (variable 0 0)) (variable 0 0)) n s → 0 ≡ s
x_of_one_sort n s (inl (inl o)) = o.1
x_of_one_sort n s (inl (inr o)) = absurd o
x_of_one_sort n s (inr o) = o.1

pub sorted_data_examples : SortedDataExamples
sorted_data_examples = record {
  undeclared = record {
    sides = λ e is. each_member (HasOneSort idle_signature) undeclared_x.equations is.0 e
        (record { sort = 0; left = (_, refl, refl, ((refl, omega arith), tt)); right = (refl, omega arith) }, tt) is.1;
    numbers = λ e is. each_member HasOneSortPerNumber undeclared_x.equations is.0 e
        ((λ n r s o p. sym (x_of_one_sort n r o) ∙ x_of_one_sort n s p), tt) is.1;
  };
  undeclared_not_well_formed = λ h.
      let over = h.equations _ (0, refl) in
      let declared = over.left_declared 0 0 (inl (refl, refl)) in none-some declared.1 declared.2;
  two_sorts = λ e is. each_member (HasOneSort two_sorts_of_x.signature) two_sorts_of_x.equations is.0 e
      (record { sort = 0; left = (_, refl, refl, ((refl, omega arith), ((refl, omega arith), tt))); right = (refl, omega arith) }, tt) is.1;
  two_sorts_not_sorted = λ h.
      let same : ◌≡◌ {A = ℕ} 0 1 = h.numbers _ (0, refl) 0 0 1 (inr (refl, refl)) (inl (inr (inl (refl, refl)))) in cc;
}
