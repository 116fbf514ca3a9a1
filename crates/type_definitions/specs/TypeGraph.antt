-- Types by their numbers, and which one mentions which: which type leads to which, and which mention lies on a cycle.
use Rattle.std.specs.Prelude.{◌≡◌, ◌⊎◌, ◌<◌, ℕ, Bool, true, nat_eq, List, [], Some, slice_get, slice_index_or, length}
use Rattle.std.specs.List.{list_any}

-- ---- A graph lists for each type, by its number, the numbers of the types that it mentions, in text order.

-- the numbers of the types that a type mentions
abbrev pub mentioned_by : List (List ℕ) → ℕ → List ℕ
mentioned_by graph i = slice_index_or graph i []

-- whether the number is in the list
abbrev pub is_among : List ℕ → ℕ → Bool
is_among numbers i = list_any (nat_eq i) numbers

-- one type mentions the other
abbrev pub Mentions : List (List ℕ) → ℕ → ℕ → Type 0
Mentions graph i j = is_among (mentioned_by graph i) j ≡ true

-- each number that is mentioned is that of a type
abbrev pub IsWithin : List (List ℕ) → Type 0
IsWithin graph = (i j : ℕ) → Mentions graph i j → j < length graph

-- One type leads to the other by one mention or more.
pub data MentionsLead (graph : List (List ℕ)) : ℕ → ℕ → Type 0 where
  leads_at_once : {i j : ℕ} → Mentions graph i j → MentionsLead graph i j
  leads_on : {i j k : ℕ} → Mentions graph i j → MentionsLead graph j k → MentionsLead graph i k

-- ---- Cycles.

-- the mention at this position of what the type mentions is one of that type
abbrev pub IsMention : List (List ℕ) → ℕ → ℕ → ℕ → Type 0
IsMention graph i position j = slice_get (mentioned_by graph i) position ≡ Some j

-- a mention of the second type by the first lies on a cycle: they are one, or the second leads to the first
abbrev pub IsOnCycle : List (List ℕ) → ℕ → ℕ → Type 0
IsOnCycle graph i j = (j ≡ i) ⊎ MentionsLead graph j i

-- the mention at the position m of the type l comes before that at the position k of the type i
abbrev pub MentionComesBefore : ℕ → ℕ → ℕ → ℕ → Type 0
MentionComesBefore l m i k = (l < i) ⊎ ((l ≡ i) × (m < k))

-- The mention at this position of this type is the first one, in text order, that lies on a cycle.
pub record IsFirstMentionOnCycle (graph : List (List ℕ)) (by position : ℕ) : Type 0 where
  pub mentioned : ℕ
  pub is_there : IsMention graph by position mentioned
  pub on_cycle : IsOnCycle graph by mentioned
  pub first : (l m j : ℕ) → MentionComesBefore l m by position → IsMention graph l m j → ¬ IsOnCycle graph l j

-- no mention lies on a cycle
abbrev pub IsAcyclic : List (List ℕ) → Type 0
IsAcyclic graph = (i j : ℕ) → Mentions graph i j → ¬ IsOnCycle graph i j

-- some mention lies on a cycle
abbrev pub HasCycle : List (List ℕ) → Type 0
HasCycle graph = (i : ℕ) × (j : ℕ) × Mentions graph i j × IsOnCycle graph i j
