-- The fault of the names of types that counts is one alone.
use Rattle.std.proofs.Common.{◌≡◌, ℕ, ◌<◌, ◌⊎◌, List, inl, inr, ap, sym, ◌∙◌, arith}
use Rattle.std.specs.Prelude.{Option, None, Some}
use Rattle.std.proofs.lemmas.Bool.{cases_lt}
use Rattle.std.proofs.lemmas.Option.{none-some, same_Some}
use Rattle.lotos_base.specs.WrittenTerm.{PlacedName}
use Rattle.lotos_base.specs.Equation.{Place}
use Rattle.type_definitions.specs.DeclaredTypes.{DeclaredType}
use Rattle.type_definitions.specs.TypeGraph.{MentionComesBefore}
use Rattle.type_definitions.specs.MentionFaults.{MentionFault, double_type, unknown_type, type_cycle, IsMentionFault, IsCyclicMention, mention_at}

clash : {A B : Type 0} (o : Option A) (x : A) → o ≡ Some x → o ≡ None → B
clash o x some none = absurd (none-some x (sym none ∙ some))

either_first : (a b c d : ℕ) → (MentionComesBefore a b c d ⊎ MentionComesBefore c d a b) ⊎ ((a ≡ c) × (b ≡ d))
either_first a b c d =
    elim (cases_lt a c) [
      | inl earlier ↦ inl (inl (inl earlier))
      | inr late ↦ elim (cases_lt c a) [
        | inl later ↦ inl (inr (inl later))
        | inr as_late ↦
            let same : a ≡ c = omega arith in
            let back : c ≡ a = omega arith in
            elim (cases_lt b d) [
              | inl before ↦ inl (inl (inr (same, before)))
              | inr behind ↦ elim (cases_lt d b) [
                | inl after ↦ inl (inr (inr (back, after)))
                | inr at ↦ let one : b ≡ d = omega arith in inr (same, one)
              ]
            ]
      ]
    ]

first_unique : (types : List DeclaredType) (m n : PlacedName) → IsCyclicMention types m → IsCyclicMention types n → m ≡ n
first_unique types m n h k =
    elim (either_first h.by h.position k.by k.position) [
      | inl one ↦
          elim one [
            | inl earlier ↦
                absurd (k.is_first.first h.by h.position h.is_first.mentioned earlier h.is_first.is_there h.is_first.on_cycle)
            | inr later ↦
                absurd (h.is_first.first k.by k.position k.is_first.mentioned later k.is_first.is_there k.is_first.on_cycle)
          ]
      | inr same ↦
          same_Some _ _
          (sym h.is_there ∙ ap (λ (i : ℕ). mention_at types i h.position) same.0
          ∙ ap (λ (i : ℕ). mention_at types k.by i) same.1 ∙ k.is_there)
    ]

pub faults_unique : (types : List DeclaredType) (one other : MentionFault) → IsMentionFault types one → IsMentionFault types other
    → one ≡ other
faults_unique types (double_type p n) (double_type q m) h k =
    let same : h.0 ≡ k.0 = same_Some _ _ (sym h.1 ∙ k.1) in
    ap (λ (x : Place). double_type x n) (sym h.2 ∙ ap (λ (t : DeclaredType). t.place) same ∙ k.2)
    ∙ ap (λ (x : List ℕ). double_type q x) (sym h.3 ∙ ap (λ (t : DeclaredType). t.name) same ∙ k.3)
faults_unique types (double_type p n) (unknown_type q m) h k = clash _ h.0 h.1 k.0
faults_unique types (double_type p n) (type_cycle q m) h k = clash _ h.0 h.1 k.0
faults_unique types (unknown_type p n) (double_type q m) h k = clash _ k.0 k.1 h.0
faults_unique types (unknown_type p n) (unknown_type q m) h k =
    let same : h.1.0 ≡ k.1.0 = same_Some _ _ (sym h.1.1 ∙ k.1.1) in
    ap (λ (x : Place). unknown_type x n) (sym h.1.2 ∙ ap (λ (t : PlacedName). t.place) same ∙ k.1.2)
    ∙ ap (λ (x : List ℕ). unknown_type q x) (sym h.1.3 ∙ ap (λ (t : PlacedName). t.name) same ∙ k.1.3)
faults_unique types (unknown_type p n) (type_cycle q m) h k = clash _ h.1.0 h.1.1 k.1
faults_unique types (type_cycle p n) (double_type q m) h k = clash _ k.0 k.1 h.0
faults_unique types (type_cycle p n) (unknown_type q m) h k = clash _ k.1.0 k.1.1 h.1
faults_unique types (type_cycle p n) (type_cycle q m) h k =
    let same = first_unique types h.2.0 k.2.0 h.2.1 k.2.1 in
    ap (λ (x : Place). type_cycle x n) (sym h.2.2 ∙ ap (λ (t : PlacedName). t.place) same ∙ k.2.2)
    ∙ ap (λ (x : List ℕ). type_cycle q x) (sym h.2.3 ∙ ap (λ (t : PlacedName). t.name) same ∙ k.2.3)
