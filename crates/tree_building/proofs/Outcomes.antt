-- A text has one outcome.
use Rattle.std.proofs.Common.{◌≡◌, ◌∙◌, ℕ, ◌<◌, ◌≤◌, List, Some, None, length, arith, refl, ap, sym, subst, inl, inr}
use Rattle.std.specs.Prelude.{◌⊎◌}
use Rattle.lotos_base.specs.Limits.{text_limit}
use Rattle.lotos_base.specs.declared.places.Place.{Place}
use Rattle.lotos_base.specs.WrittenView.{text_place_of}
use Rattle.lotos_lexer.specs.declared.tokens.Token.{Token}
use Rattle.lotos_lexer.specs.Tokens as lexed
use Rattle.lotos_lexer.specs.Tokens.{Lexed, tokens_of}
use Rattle.tree_building.proofs.Unique.{unambiguous}
use Rattle.lotos_rows.specs.Starts.{IsWrittenSpecification, AreItems, AreOrderItems, AreOptionalTerms}
use Rattle.syntax_trees.specs.Depth.{TreeNode, first_deeper, nodes_of_specification, nodes_of_terms}
use Rattle.tree_building.specs.declared.fault.ReadFault.{ReadFault}
use Rattle.tree_building.specs.declared.fault.ReadFault.TheVariants.{TooLong, BadByte, OpenComment, Syntax, TooDeep, NoMemory}
use Rattle.tree_building.specs.Blame.{IsBlamed, blamed_place}
use Rattle.tree_building.specs.Reading.{node_limit, IsRead, IsFault, IsReadWithin, IsFaultWithin, nodes_of_items, nodes_of_order}
use Rattle.tree_building.specs.ReadingLaws.{HasOneOutcome, TextsHaveOneOutcome}
use Rattle.tree_building.proofs.Blamed.{one_blamed}

pub same_tokens : (all : Lexed) (some other : List Token) → all ≡ lexed.Tokens some → all ≡ lexed.Tokens other → some ≡ other
same_tokens all some other e f = let both : lexed.Tokens some ≡ lexed.Tokens other = sym e ∙ f in cc

not_bad : (all : Lexed) (tokens : List Token) (place : Place) → all ≡ lexed.Tokens tokens → all ≡ lexed.BadByte place → ⊥
not_bad all tokens place e f = let both : lexed.Tokens tokens ≡ lexed.BadByte place = sym e ∙ f in cc

not_open : (all : Lexed) (tokens : List Token) (place : Place) → all ≡ lexed.Tokens tokens → all ≡ lexed.OpenComment place → ⊥
not_open all tokens place e f = let both : lexed.Tokens tokens ≡ lexed.OpenComment place = sym e ∙ f in cc

bad_or_open : (all : Lexed) (place other : Place) → all ≡ lexed.BadByte place → all ≡ lexed.OpenComment other → ⊥
bad_or_open all place other e f = let both : lexed.BadByte place ≡ lexed.OpenComment other = sym e ∙ f in cc

same_bad : (all : Lexed) (place other : Place) → all ≡ lexed.BadByte place → all ≡ lexed.BadByte other → BadByte place ≡ BadByte other
same_bad all place other e f = let both : lexed.BadByte place ≡ lexed.BadByte other = sym e ∙ f in cc

same_open : (all : Lexed) (place other : Place) → all ≡ lexed.OpenComment place → all ≡ lexed.OpenComment other →
    OpenComment place ≡ OpenComment other
same_open all place other e f = let both : lexed.OpenComment place ≡ lexed.OpenComment other = sym e ∙ f in cc

same_place : (place other : Place) → text_place_of place ≡ text_place_of other → place ≡ other
same_place place other e =
    let text : place.text ≡ other.text = ap (λ it. it.text) e in
    let line : place.line ≡ other.line = ap (λ it. it.line) e in
    let col : place.col ≡ other.col = ap (λ it. it.column) e in
    let make : ℕ → ℕ → ℕ → Place = λ a b c. record { text = a; line = b; col = c } in
    ap (λ it. make it place.line place.col) text ∙ ap (λ it. make other.text it place.col) line
    ∙ ap (λ it. make other.text other.line it) col

-- of two faults one is want of memory, or they are the same
abbrev Agree : ReadFault → ReadFault → Type 0
Agree some other = (some ≡ NoMemory) ⊎ ((other ≡ NoMemory) ⊎ (some ≡ other))

module _ {A : Type 0} (one : List Token → A → Type 0) (nodes : A → List TreeNode)
    (unique : (tokens : List Token) (some other : A) → one tokens some → one tokens other → some ≡ other) (number : ℕ) (text : List ℕ) where
  pub one_tree : (some other : A) → IsRead one nodes number text some → IsRead one nodes number text other → some ≡ other
  one_tree some other first second =
      unique second.tokens some other
      (subst (λ it. one it some) (same_tokens (tokens_of number text) first.tokens second.tokens first.cut_into second.cut_into)
      first.sentence)
      second.sentence

  pub not_both : (tree : A) (fault : ReadFault) → IsRead one nodes number text tree → IsFault one nodes number text fault → fault ≡ NoMemory
  not_both tree TooLong read is = absurd is
  not_both tree (BadByte place) read is = absurd (not_bad (tokens_of number text) read.tokens place read.cut_into is)
  not_both tree (OpenComment place) read is = absurd (not_open (tokens_of number text) read.tokens place read.cut_into is)
  not_both tree (Syntax place) read is =
      absurd (is.2.blamed.no_text tree
      (subst (λ it. one it tree) (same_tokens (tokens_of number text) read.tokens is.0 read.cut_into is.2.cut_into) read.sentence))
  not_both tree (TooDeep place) read is =
      let same : tree ≡ is.1 = unique is.0 tree is.1
      (subst (λ it. one it tree) (same_tokens (tokens_of number text) read.tokens is.0 read.cut_into is.2) read.sentence) is.3 in
      let both : None ≡ Some (text_place_of place) = sym read.shallow ∙ ap (λ it. first_deeper node_limit (nodes it)) same ∙ is.4 in
      cc
  not_both tree NoMemory read is = refl

  one_syntax : (some other : ReadFault) (place place' : Place) → IsFault one nodes number text (Syntax place) →
      IsFault one nodes number text (Syntax place') → Syntax place ≡ Syntax place'
  one_syntax some other place place' first second =
      let tokens : first.0 ≡ second.0 = same_tokens (tokens_of number text) first.0 second.0 first.2.cut_into second.2.cut_into in
      let at : first.1 ≡ second.1 =
      one_blamed one second.0 first.1 second.1 (subst (λ it. IsBlamed one it first.1) tokens first.2.blamed) second.2.blamed in
      let same : place ≡ place' =
      first.3 ∙ ap (λ it. blamed_place number text it first.1) tokens ∙ ap (λ it. blamed_place number text second.0 it) at ∙ sym second.3 in
      ap Syntax same

  one_deep : (place place' : Place) → IsFault one nodes number text (TooDeep place) → IsFault one nodes number text (TooDeep place') →
      TooDeep place ≡ TooDeep place'
  one_deep place place' first second =
      let tokens : first.0 ≡ second.0 = same_tokens (tokens_of number text) first.0 second.0 first.2 second.2 in
      let tree : first.1 ≡ second.1 = unique second.0 first.1 second.1 (subst (λ it. one it first.1) tokens first.3) second.3 in
      let both : Some (text_place_of place) ≡ Some (text_place_of place') =
      sym first.4 ∙ ap (λ it. first_deeper node_limit (nodes it)) tree ∙ second.4 in
      let same : text_place_of place ≡ text_place_of place' = cc in
      ap TooDeep (same_place place place' same)

  syntax_or_deep : (place place' : Place) → IsFault one nodes number text (Syntax place) → IsFault one nodes number text (TooDeep place')
      → ⊥
  syntax_or_deep place place' first second =
      let tokens : second.0 ≡ first.0 = same_tokens (tokens_of number text) second.0 first.0 second.2 first.2.cut_into in
      first.2.blamed.no_text second.1 (subst (λ it. one it second.1) tokens second.3)

  pub one_fault : (some other : ReadFault) → IsFault one nodes number text some → IsFault one nodes number text other → Agree some other
  one_fault TooLong other first second = absurd first
  one_fault NoMemory other first second = inl refl
  one_fault (BadByte place) TooLong first second = absurd second
  one_fault (BadByte place) (BadByte place') first second = inr (inr (same_bad (tokens_of number text) place place' first second))
  one_fault (BadByte place) (OpenComment place') first second = absurd (bad_or_open (tokens_of number text) place place' first second)
  one_fault (BadByte place) (Syntax place') first second =
      absurd (not_bad (tokens_of number text) second.0 place second.2.cut_into first)
  one_fault (BadByte place) (TooDeep place') first second = absurd (not_bad (tokens_of number text) second.0 place second.2 first)
  one_fault (BadByte place) NoMemory first second = inr (inl refl)
  one_fault (OpenComment place) TooLong first second = absurd second
  one_fault (OpenComment place) (BadByte place') first second = absurd (bad_or_open (tokens_of number text) place' place second first)
  one_fault (OpenComment place) (OpenComment place') first second =
      inr (inr (same_open (tokens_of number text) place place' first second))
  one_fault (OpenComment place) (Syntax place') first second =
      absurd (not_open (tokens_of number text) second.0 place second.2.cut_into first)
  one_fault (OpenComment place) (TooDeep place') first second = absurd (not_open (tokens_of number text) second.0 place second.2 first)
  one_fault (OpenComment place) NoMemory first second = inr (inl refl)
  one_fault (Syntax place) TooLong first second = absurd second
  one_fault (Syntax place) (BadByte place') first second =
      absurd (not_bad (tokens_of number text) first.0 place' first.2.cut_into second)
  one_fault (Syntax place) (OpenComment place') first second =
      absurd (not_open (tokens_of number text) first.0 place' first.2.cut_into second)
  one_fault (Syntax place) (Syntax place') first second = inr (inr (one_syntax (Syntax place) (Syntax place') place place' first second))
  one_fault (Syntax place) (TooDeep place') first second = absurd (syntax_or_deep place place' first second)
  one_fault (Syntax place) NoMemory first second = inr (inl refl)
  one_fault (TooDeep place) TooLong first second = absurd second
  one_fault (TooDeep place) (BadByte place') first second = absurd (not_bad (tokens_of number text) first.0 place' first.2 second)
  one_fault (TooDeep place) (OpenComment place') first second = absurd (not_open (tokens_of number text) first.0 place' first.2 second)
  one_fault (TooDeep place) (Syntax place') first second = absurd (syntax_or_deep place' place second first)
  one_fault (TooDeep place) (TooDeep place') first second = inr (inr (one_deep place place' first second))
  one_fault (TooDeep place) NoMemory first second = inr (inl refl)

-- without the limit, a fault is TooLong of a text that is, or one of the text without a limit
data Unlimited {A : Type 0} (limit : ℕ) (one : List Token → A → Type 0) (nodes : A → List TreeNode) (number : ℕ) (text : List ℕ)
    (fault : ReadFault) : Type 0 where
  too_long : fault ≡ TooLong → limit < length text → Unlimited limit one nodes number text fault
  within : length text ≤ limit → IsFault one nodes number text fault → Unlimited limit one nodes number text fault
  wanting : fault ≡ NoMemory → Unlimited limit one nodes number text fault

unlimited : {A : Type 0} (limit : ℕ) (one : List Token → A → Type 0) (nodes : A → List TreeNode) (number : ℕ) (text : List ℕ)
    (fault : ReadFault) → IsFaultWithin limit one nodes number text fault → Unlimited limit one nodes number text fault
unlimited limit one nodes number text TooLong is = too_long refl is
unlimited limit one nodes number text (BadByte place) is = within is.0 is.1
unlimited limit one nodes number text (OpenComment place) is = within is.0 is.1
unlimited limit one nodes number text (Syntax place) is = within is.0 is.1
unlimited limit one nodes number text (TooDeep place) is = within is.0 is.1
unlimited limit one nodes number text NoMemory is = wanting refl

not_both_within : {A : Type 0} (limit : ℕ) (one : List Token → A → Type 0) (nodes : A → List TreeNode) →
    ((tokens : List Token) (some other : A) → one tokens some → one tokens other → some ≡ other) → (number : ℕ) (text : List ℕ) (tree : A)
    (fault : ReadFault) → IsReadWithin limit one nodes number text tree → IsFaultWithin limit one nodes number text fault → fault ≡ NoMemory
not_both_within limit one nodes unique number text tree fault read is =
    elim (unlimited limit one nodes number text fault is) [
      | too_long e above ↦ let below : length text ≤ limit = read.0 in absurd (omega arith)
      | within below is ↦ not_both one nodes unique number text tree fault read.1 is
      | wanting e ↦ e
    ]

one_fault_within : {A : Type 0} (limit : ℕ) (one : List Token → A → Type 0) (nodes : A → List TreeNode) →
    ((tokens : List Token) (some other : A) → one tokens some → one tokens other → some ≡ other) → (number : ℕ) (text : List ℕ)
    (some other : ReadFault) → IsFaultWithin limit one nodes number text some → IsFaultWithin limit one nodes number text other →
    Agree some other
one_fault_within limit one nodes unique number text some other first second =
    elim (unlimited limit one nodes number text some first) [
      | wanting e ↦ inl e
      | too_long e above ↦ elim (unlimited limit one nodes number text other second) [
        | wanting f ↦ inr (inl f)
        | too_long f above' ↦ inr (inr (e ∙ sym f))
        | within below is ↦ absurd (omega arith)
      ]
      | within below is ↦ elim (unlimited limit one nodes number text other second) [
        | wanting f ↦ inr (inl f)
        | too_long f above ↦ absurd (omega arith)
        | within below' is' ↦ one_fault one nodes unique number text some other is is'
      ]
    ]

one_outcome_within : {A : Type 0} (limit : ℕ) (one : List ℕ → List Token → A → Type 0) (nodes : A → List TreeNode) →
    ((text : List ℕ) (tokens : List Token) (some other : A) → one text tokens some → one text tokens other → some ≡ other) →
    HasOneOutcome (λ number text tree. IsReadWithin limit (one text) nodes number text tree)
    (λ number text fault. IsFaultWithin limit (one text) nodes number text fault)
one_outcome_within limit one nodes unique = record {
  one_tree = λ number text some other first second. one_tree (one text) nodes (unique text) number text some other first.1 second.1;
  not_both = λ number text tree cause read is. not_both_within limit (one text) nodes (unique text) number text tree cause read is;
  one_fault = λ number text some other first second. one_fault_within limit (one text) nodes (unique text) number text some other first
      second;
}

one_outcome : {A : Type 0} (one : List ℕ → List Token → A → Type 0) (nodes : A → List TreeNode) →
    ((text : List ℕ) (tokens : List Token) (some other : A) → one text tokens some → one text tokens other → some ≡ other) →
    HasOneOutcome (λ number text tree. IsRead (one text) nodes number text tree)
    (λ number text fault. IsFault (one text) nodes number text fault)
one_outcome one nodes unique = record {
  one_tree = λ number text some other first second. one_tree (one text) nodes (unique text) number text some other first second;
  not_both = λ number text tree cause read is. not_both (one text) nodes (unique text) number text tree cause read is;
  one_fault = λ number text some other first second. one_fault (one text) nodes (unique text) number text some other first second;
}

pub all_have_one_outcome : TextsHaveOneOutcome
all_have_one_outcome = record {
  specification = one_outcome_within text_limit IsWrittenSpecification nodes_of_specification unambiguous.specification;
  items = one_outcome_within text_limit AreItems nodes_of_items unambiguous.items;
  order = one_outcome_within text_limit AreOrderItems nodes_of_order unambiguous.order;
  terms = one_outcome AreOptionalTerms nodes_of_terms unambiguous.terms;
}
