-- A text in its parts, which are blanks, comments and tokens, and the place where a faulty text cannot be cut further.
use Rattle.std.specs.Prelude.{◌≡◌, ◌≢◌, ℕ, suc, ◌+◌, Bool, true, false, not, if◌then◌else◌, List, [], ◌∷◌, ◌++◌, codes, length, reverse, ◌==◌}
use Rattle.std.specs.List.{prefix_len, list_all}
use Rattle.lotos_base.specs.declared.places.Place.{Place}
use Rattle.lotos_lexer.specs.declared.kinds.TheConstants.{GATES_OPEN, GATES_CLOSE}
use Rattle.lotos_lexer.specs.declared.tokens.Token.{Token}
use Rattle.lotos_lexer.specs.Bytes.{first_is, begins_with, is_blank}
use Rattle.lotos_lexer.specs.Tokens.{Lexed, Tokens, BadByte, OpenComment, tokens_of}
use Rattle.session_laws.specs.LongestTokens.{IsLongest, HasNoToken}

-- ---- Parts

-- a part of a text with its bytes: a blank, a comment, or a token of a kind
pub data TextPart : Type 0 where
  a_blank : ℕ → TextPart
  a_comment : List ℕ → TextPart
  a_token : (kind : ℕ) → List ℕ → TextPart

abbrev pub part_bytes : TextPart → List ℕ
part_bytes (a_blank byte) = byte ∷ []
part_bytes (a_comment bytes) = bytes
part_bytes (a_token kind bytes) = bytes

-- the bytes of parts in order
abbrev pub all_bytes : List TextPart → List ℕ
all_bytes [] = []
all_bytes (part ∷ parts) = part_bytes part ++ all_bytes parts

-- ---- Where a list of gates is open

-- the part is no token with a `]`
abbrev pub has_no_bracket : TextPart → Bool
has_no_bracket (a_blank byte) = true
has_no_bracket (a_comment bytes) = true
has_no_bracket (a_token kind bytes) = list_all (λ byte. not (byte == 93)) bytes

-- a list of gates is open behind these parts: `|[` is a token among them, and no token behind it has a `]`
pub record HasOpenGates (parts : List TextPart) : Type 0 where
  pub before : List TextPart
  pub after : List TextPart
  pub opened : parts ≡ before ++ (a_token GATES_OPEN (codes "|[") ∷ after)
  pub still : list_all has_no_bracket after ≡ true

-- whether a list of gates is open behind these parts
abbrev pub TellsOpen : Bool → List TextPart → Type 0
TellsOpen true parts = HasOpenGates parts
TellsOpen false parts = ¬ HasOpenGates parts

-- ---- What begins at a place

-- a comment: `(*`, and what follows up to the first `*)` behind it
pub record IsComment (bytes : List ℕ) : Type 0 where
  pub inner : List ℕ
  pub made_up : bytes ≡ codes "(*" ++ (inner ++ codes "*)")
  pub first : (front back : List ℕ) → inner ++ codes "*)" ≡ front ++ (codes "*)" ++ back) → back ≡ []

-- no blank and no comment begins here
pub record BeginsPlainly (bytes : List ℕ) : Type 0 where
  pub no_blank : first_is is_blank bytes ≡ false
  pub no_comment : begins_with (codes "(*") bytes ≡ false

-- behind these parts begins a token of this kind and length, the longest that fits: of those of its place `]|` is one exactly where
-- a list of gates is open
pub record IsTokenHere (before : List TextPart) (kind count : ℕ) (bytes : List ℕ) : Type 0 where
  pub plain : BeginsPlainly bytes
  pub open_list : Bool
  pub told : TellsOpen open_list before
  pub longest : IsLongest open_list bytes kind count

-- the part stands behind those before it, and these bytes behind the part
abbrev pub Stands : List TextPart → TextPart → List ℕ → Type 0
Stands before (a_blank byte) rest = is_blank byte ≡ true
Stands before (a_comment bytes) rest = IsComment bytes
Stands before (a_token kind bytes) rest = IsTokenHere before kind (length bytes) (bytes ++ rest)

-- ---- Where the cutting ends

-- a byte with which nothing begins
pub record IsBadByte (before : List TextPart) (rest : List ℕ) : Type 0 where
  pub some : rest ≢ []
  pub plain : BeginsPlainly rest
  pub open_list : Bool
  pub told : TellsOpen open_list before
  pub none : HasNoToken open_list rest

-- a comment without an end: `(*`, and no `*)` behind it
pub record IsOpenComment (rest : List ℕ) : Type 0 where
  pub inner : List ℕ
  pub made_up : rest ≡ codes "(*" ++ inner
  pub never : (front back : List ℕ) → inner ≢ front ++ (codes "*)" ++ back)

pub data Ending : Type 0 where
  at_the_end : Ending
  at_a_bad_byte : Ending
  at_an_open_comment : Ending

-- behind these parts the rest of the text has this fault, or is none
abbrev pub TextEnds : List TextPart → List ℕ → Ending → Type 0
TextEnds before rest at_the_end = rest ≡ []
TextEnds before rest at_a_bad_byte = IsBadByte before rest
TextEnds before rest at_an_open_comment = IsOpenComment rest

-- ---- Cuttings

-- the parts in order make up the text up to the rest; each stands where it stands by what is there; and the rest is empty or begins
-- with the first fault
pub record IsCutting (text : List ℕ) (parts : List TextPart) (rest : List ℕ) (ending : Ending) : Type 0 where
  pub made_up : text ≡ all_bytes parts ++ rest
  pub each : (before : List TextPart) (part : TextPart) (after : List TextPart) → parts ≡ before ++ (part ∷ after)
      → Stands before part (all_bytes after ++ rest)
  pub ends : TextEnds parts rest ending

-- a text has one cutting
pub record HasOneCutting (text : List ℕ) : Type 0 where
  pub parts : List TextPart
  pub rest : List ℕ
  pub ending : Ending
  pub cutting : IsCutting text parts rest ending
  pub alone : (others : List TextPart) (left : List ℕ) (end : Ending) → IsCutting text others left end
      → (others ≡ parts) × (left ≡ rest) × (end ≡ ending)

abbrev pub TextsHaveOneCutting : Type 0
TextsHaveOneCutting = (text : List ℕ) → HasOneCutting text

-- ---- The tokens of a text

-- the place behind bytes of a text: its line is one more than the line feeds among them, its column one more than the bytes behind
-- the last line feed
abbrev pub line_feeds : List ℕ → ℕ
line_feeds [] = 0
line_feeds (byte ∷ bytes) = if byte == 10 then suc (line_feeds bytes) else line_feeds bytes

abbrev pub on_line : List ℕ → ℕ
on_line bytes = prefix_len (λ byte. not (byte == 10)) (reverse bytes)

abbrev pub place_behind : ℕ → List ℕ → Place
place_behind number bytes = record { text = number; line = suc (line_feeds bytes); col = suc (on_line bytes) }

-- the tokens among parts that stand behind these bytes
abbrev pub tokens_behind : ℕ → List ℕ → List TextPart → List Token
tokens_behind number before [] = []
tokens_behind number before (a_blank byte ∷ parts) = tokens_behind number (before ++ byte ∷ []) parts
tokens_behind number before (a_comment bytes ∷ parts) = tokens_behind number (before ++ bytes) parts
tokens_behind number before (a_token kind bytes ∷ parts) = record {
  kind = kind;
  place = place_behind number before;
  first = length before;
  past = length before + length bytes;
} ∷ tokens_behind number (before ++ bytes) parts

-- the tokens of a whole text, or the fault with its place, which is behind the parts
abbrev pub lexed_as : ℕ → List TextPart → Ending → Lexed
lexed_as number parts at_the_end = Tokens (tokens_behind number [] parts)
lexed_as number parts at_a_bad_byte = BadByte (place_behind number (all_bytes parts))
lexed_as number parts at_an_open_comment = OpenComment (place_behind number (all_bytes parts))

-- what a text is cut into are the tokens of its cutting, or its fault
abbrev pub TokensAreOfCuttings : Type 0
TokensAreOfCuttings = (number : ℕ) (text : List ℕ) (parts : List TextPart) (rest : List ℕ) (ending : Ending)
    → IsCutting text parts rest ending → tokens_of number text ≡ lexed_as number parts ending

-- ---- The sign that closes a list of gates

-- a part is the sign `]|` exactly where these bytes begin and a list of gates is open
pub record IsClosingSign (before : List TextPart) (part : TextPart) (bytes : List ℕ) : Type 0 where
  pub only : part ≡ a_token GATES_CLOSE (codes "]|") → HasOpenGates before
  pub always : begins_with (codes "]|") bytes ≡ true → HasOpenGates before → part ≡ a_token GATES_CLOSE (codes "]|")

-- so `]|` is a token exactly at the first `]` outside comments behind the last `|[`, where a `|` follows it
abbrev pub ClosingSignsClose : Type 0
ClosingSignsClose = (text : List ℕ) (parts : List TextPart) (rest : List ℕ) (ending : Ending) → IsCutting text parts rest ending
    → (before : List TextPart) (part : TextPart) (after : List TextPart) → parts ≡ before ++ (part ∷ after)
    → IsClosingSign before part (part_bytes part ++ (all_bytes after ++ rest))
