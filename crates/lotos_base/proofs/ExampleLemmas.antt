-- The computed cases of sorts, paths and substitutions.
use Rattle.std.proofs.Common.{◌≡◌, ℕ, [], ◌∷◌, true, false, refl, subst, arith, inl, inr}
use Rattle.std.specs.Prelude.{Some, slice_get}
use Rattle.std.proofs.lemmas.Option.{none-some}
use Rattle.lotos_base.specs.Signature.{Operation, Sort, IsSort, IsWellFormedSignature}
use Rattle.lotos_base.specs.Term.{no_terms, term_then}
use Rattle.lotos_base.specs.Equation.{Variable, IsEquationOver, IsWellFormedData}
use Rattle.lotos_base.specs.SmallData.{natural_signature, natural_data, nought_law, successor_law, natural_variables, nought, successor, plus, x_natural, idle_signature, idle_data, idle_law, b_term}
use Rattle.lotos_base.specs.Examples.{SortingExamples, PathExamples, SubstitutionExamples}
use Rattle.lotos_base.proofs.ExampleHelpers.{one_position, one_named, unfit}
use Rattle.lotos_base.proofs.SortLemmas.{one_sort}
use Rattle.lotos_base.proofs.TestLemmas.{Decides-occurs}
use Rattle.lotos_base.proofs.Each.{each_member}

natural_fine : IsWellFormedSignature natural_signature
natural_fine = record {
  results = λ f o e. each_member (λ (o : Operation). IsSort natural_signature o.result) natural_signature.operations f o
      (omega arith, (omega arith, (omega arith, tt))) e;
  arguments = λ f i s o e d. each_member (λ (o : Operation). (i s : ℕ) → slice_get o.arguments i ≡ Some s → IsSort natural_signature s)
      natural_signature.operations f o (
        (λ i s d. cc),
        (
          (λ i s d. each_member (IsSort natural_signature) (0 ∷ []) i s (omega arith, tt) d),
          ((λ i s d. each_member (IsSort natural_signature) (0 ∷ 0 ∷ []) i s (omega arith, (omega arith, tt)) d), tt),
        ),
      ) e i s d;
  sort_names = λ i j s t e d a. one_named (λ (s : Sort). s.name) natural_signature.sorts i j s t refl e d a;
  profiles = λ f g o p e d name form arguments result. one_named (λ (o : Operation). o.name) natural_signature.operations f g o p refl e d
      name;
}

natural_variable : (v : Variable) (n s : ℕ) → v.number ≡ n → v.sort ≡ s → v.sort ≡ 0 → IsSort natural_signature s
natural_variable v n s en es e0 = omega arith

nought_law_fine : IsEquationOver natural_signature nought_law
nought_law_fine = record {
  sort = 0;
  left_sort = (_, refl, refl, ((_, refl, refl, tt), ((refl, omega arith), tt)));
  right_sort = (refl, omega arith);
  variable_sorts = λ n s d. natural_variable d.1 n s d.3 d.4
      (each_member (λ (v : Variable). v.sort ≡ 0) natural_variables d.0 d.1 (refl, (refl, tt)) d.2);
  numbers = λ i j v w e d a. one_position (λ (v w : Variable). v.number ≡ w.number) natural_variables i j v w
      ((((λ e. cc), (λ e. cc)), tt), (tt, tt)) e d a;
  left_declared = λ n s. elim [ inl o ↦ absurd o | inr o ↦ elim o [ inl x ↦ (0, _, refl, x.0, x.1) | inr o ↦ absurd o ] ];
  right_declared = λ n s x. (0, _, refl, x.0, x.1);
}

successor_law_fine : IsEquationOver natural_signature successor_law
successor_law_fine = record {
  sort = 0;
  left_sort = (_, refl, refl, ((_, refl, refl, ((refl, omega arith), tt)), ((refl, omega arith), tt)));
  right_sort = (_, refl, refl, ((_, refl, refl, ((refl, omega arith), ((refl, omega arith), tt))), tt));
  variable_sorts = λ n s d. natural_variable d.1 n s d.3 d.4
      (each_member (λ (v : Variable). v.sort ≡ 0) natural_variables d.0 d.1 (refl, (refl, tt)) d.2);
  numbers = λ i j v w e d a. one_position (λ (v w : Variable). v.number ≡ w.number) natural_variables i j v w
      ((((λ e. cc), (λ e. cc)), tt), (tt, tt)) e d a;
  left_declared = λ n s. elim [
    | inl o ↦ elim o [ inl x ↦ (0, _, refl, x.0, x.1) | inr o ↦ absurd o ]
    | inr o ↦ elim o [ inl y ↦ (1, _, refl, y.0, y.1) | inr o ↦ absurd o ]
  ];
  right_declared = λ n s. elim [
    | inl o ↦ elim o [ inl x ↦ (0, _, refl, x.0, x.1) | inr o ↦ elim o [ inl y ↦ (1, _, refl, y.0, y.1) | inr o ↦ absurd o ] ]
    | inr o ↦ absurd o
  ];
}

natural_data_fine : IsWellFormedData natural_data
natural_data_fine = record {
  signature = natural_fine;
  equations = λ e is. each_member (IsEquationOver natural_signature) natural_data.equations is.0 e
      (nought_law_fine, (successor_law_fine, tt)) is.1;
}

idle_fine : IsWellFormedSignature idle_signature
idle_fine = record {
  results = λ f o e. each_member (λ (o : Operation). IsSort idle_signature o.result) idle_signature.operations f o
      (omega arith, (omega arith, (omega arith, tt))) e;
  arguments = λ f i s o e d. each_member (λ (o : Operation). (i s : ℕ) → slice_get o.arguments i ≡ Some s → IsSort idle_signature s)
      idle_signature.operations f o
      ((λ i s d. cc), ((λ i s d. cc), ((λ i s d. each_member (IsSort idle_signature) (0 ∷ []) i s (omega arith, tt) d), tt))) e i s d;
  sort_names = λ i j s t e d a. one_named (λ (s : Sort). s.name) idle_signature.sorts i j s t refl e d a;
  profiles = λ f g o p e d name form arguments result. one_named (λ (o : Operation). o.name) idle_signature.operations f g o p refl e d
      name;
}

idle_law_fine : IsEquationOver idle_signature idle_law
idle_law_fine = record {
  sort = 0;
  left_sort = (_, refl, refl, ((_, refl, refl, ((refl, omega arith), tt)), tt));
  right_sort = (_, refl, refl, ((refl, omega arith), tt));
  variable_sorts = λ n s d. subst (IsSort idle_signature) d.4
      (each_member (λ (v : Variable). IsSort idle_signature v.sort) idle_law.variables d.0 d.1 (omega arith, (omega arith, tt)) d.2);
  numbers = λ i j v w e d a. one_position (λ (v w : Variable). v.number ≡ w.number) idle_law.variables i j v w
      ((((λ e. cc), (λ e. cc)), tt), (tt, tt)) e d a;
  left_declared = λ n s. elim [ inl o ↦ elim o [ inl x ↦ (0, _, refl, x.0, x.1) | inr o ↦ absurd o ] | inr o ↦ absurd o ];
  right_declared = λ n s. elim [ inl x ↦ (0, _, refl, x.0, x.1) | inr o ↦ absurd o ];
}

idle_data_fine : IsWellFormedData idle_data
idle_data_fine = record {
  signature = idle_fine;
  equations = λ e is. each_member (IsEquationOver idle_signature) idle_data.equations is.0 e (idle_law_fine, tt) is.1;
}

pub sorting_examples : SortingExamples
sorting_examples = record {
  sorted = (_, refl, refl, ((_, refl, refl, tt), ((_, refl, refl, ((refl, omega arith), tt)), tt)));
  too_many = unfit natural_signature 1 (term_then nought (term_then nought no_terms)) _ refl (λ h. h.1);
  too_few = unfit natural_signature 1 no_terms _ refl (λ h. h);
  wrong_sort = unfit idle_signature 2 (term_then b_term no_terms) _ refl
      (λ h. let e : 0 ≡ 1 = one_sort idle_signature b_term 0 1 h.0 (_, refl, refl, tt) in cc);
  no_operation = λ h. none-some h.1.0 h.1.1;
  no_sort = λ h. absurd (omega arith);
  head = refl;
  ground = (tt, ((tt, tt), tt));
  not_ground = λ h. h.1.0.0;
  occurring = inr (inl (inl (refl, refl)));
  other_number = λ h. let e : false ≡ true = (Decides-occurs 1 0 (plus nought (successor x_natural))).1 h in cc;
  other_sort = λ h. let e : false ≡ true = (Decides-occurs 0 1 (plus nought (successor x_natural))).1 h in cc;
  arguments = refl;
  naturals = natural_data_fine;
  idle = idle_data_fine;
}

pub path_examples : PathExamples
path_examples = record {
  at_root = refl;
  at_argument = refl;
  at_leaf = refl;
  past_leaf = refl;
  past_arguments = refl;
  below_variable = refl;
  left = refl;
  right = refl;
  put_at_root = refl;
  put_at_argument = refl;
  put_at_leaf = refl;
  put_past = refl;
  sibling = refl;
  parallel = inl (λ e. cc);
  not_parallel = elim [ inl h ↦ h refl | inr h ↦ h.1 ];
}

pub substitution_examples : SubstitutionExamples
substitution_examples = record {
  one = refl;
  both = refl;
  at_once = refl;
  first = refl;
  one_after_another = refl;
  under_binder = refl;
}
