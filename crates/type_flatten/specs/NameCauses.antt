-- The causes of the faults of the names of types: a name declared twice, a mention of no type, a mention on a cycle.
use Rattle.std.specs.Prelude.{◌≡◌, ◌⊎◌, ℕ, List, [], Some, slice_get}
use Rattle.lotos_base.specs.Names.{AreOneName}
use Rattle.lotos_base.specs.WrittenTerm.{PlacedName}
use Rattle.type_definitions.specs.DeclaredTypes.{DeclaredType, mentions_in}
use Rattle.type_definitions.specs.MentionFaults.{MentionFault, double_type, unknown_type, type_cycle}
use Rattle.type_flatten.specs.FirstCause.{OrElse, FirstAlong, stays, and_also}

-- the fault is there
abbrev pub NameCause : Type 1
NameCause = MentionFault → Type 0

-- a type of the list has the name
abbrev pub NamesType : List DeclaredType → List ℕ → Type 0
NamesType types name = (i : ℕ) × (t : DeclaredType) × (slice_get types i ≡ Some t) × AreOneName t.name name

-- ---- A name declared twice

-- an earlier type has the name of this one
abbrev pub IsDeclaredAgain : List DeclaredType → DeclaredType → NameCause
IsDeclaredAgain earlier t fault = (fault ≡ double_type t.place t.name) × NamesType earlier t.name

-- ---- A mention of no type

abbrev pub IsMentionOfNone : List DeclaredType → PlacedName → NameCause
IsMentionOfNone types mention fault = (fault ≡ unknown_type mention.place mention.name) × (¬ NamesType types mention.name)

-- ---- A mention on a cycle

-- a type of one name mentions the other name
pub record NameMentions (types : List DeclaredType) (name other : List ℕ) : Type 0 where
  pub i : ℕ
  pub t : DeclaredType
  pub is_type : slice_get types i ≡ Some t
  pub named : AreOneName t.name name
  pub k : ℕ
  pub mention : PlacedName
  pub is_mention : slice_get (mentions_in t.body) k ≡ Some mention
  pub mentioned : AreOneName mention.name other

-- by one mention or more
pub data NameLeads (types : List DeclaredType) : List ℕ → List ℕ → Type 0 where
  name_leads_at_once : {name other : List ℕ} → NameMentions types name other → NameLeads types name other
  name_leads_on : {name middle other : List ℕ} → NameMentions types name middle → NameLeads types middle other
      → NameLeads types name other

-- the mention is one of the type in which it stands, or of a type that leads to that one
abbrev pub IsMentionOnCycle : List DeclaredType → DeclaredType → PlacedName → NameCause
IsMentionOnCycle types by mention fault =
    (fault ≡ type_cycle mention.place mention.name)
    × (AreOneName mention.name by.name ⊎ NameLeads types mention.name by.name)

-- ---- All of them. Mentions come in text order: type by type, and in each from left to right.

abbrev pub UnknownOf : List DeclaredType → DeclaredType → NameCause
UnknownOf types t = FirstAlong IsMentionOfNone stays types (mentions_in t.body)

abbrev pub CyclicOf : List DeclaredType → DeclaredType → NameCause
CyclicOf types t = FirstAlong (IsMentionOnCycle types) stays t (mentions_in t.body)

-- a name that is declared twice, or else a mention of no type, or else one on a cycle
abbrev pub NamesBring : List DeclaredType → NameCause
NamesBring types =
    OrElse (FirstAlong IsDeclaredAgain and_also [] types)
    (OrElse (FirstAlong UnknownOf stays types types) (FirstAlong CyclicOf stays types types))
