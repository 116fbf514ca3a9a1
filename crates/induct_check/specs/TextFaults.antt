-- What the text of a certificate of induction is read as, and its first fault: that of what was read, or that a line does not read.
use Rattle.std.specs.Prelude.{◌≡◌, ◌⊎◌, ◌<◌, ℕ, suc, List, [], ◌∷◌, Bool, true, false, ◌||◌, Option, None, Some, codes, IsTrue, IsFalse}
use Rattle.std.specs.Str.{bytes_eq}
use Rattle.lotos_base.specs.Signature.{Signature}
use Rattle.induct_parts.specs.HandedOn.{Certificate, InductionFault, bad_line, no_tree, Theory, IsInductionFault}
use Rattle.induct_check.specs.CertificateLines.{parts_at, cut_at_blank, line_form_of}
use Rattle.induct_check.specs.CertificateReading.{OpenPart, among_covers, in_tree, behind_variables, behind_left, in_proof, ReadSoFar, nothing_read, LineTask, line_task_of, Piece, GivesPiece, FailsWithLeft, with_piece}

-- ---- Line by line

-- what the line asks for behind what was read
abbrev pub task_behind : Signature → ReadSoFar → List ℕ → LineTask
task_behind signature reading line = line_task_of signature reading.certificate.covers reading.part (line_form_of line)

-- The line gives the piece behind what was read.
abbrev pub LineGives : Signature → ReadSoFar → List ℕ → Piece → Type 0
LineGives signature reading line piece = GivesPiece signature (task_behind signature reading line) piece

-- whether the text may end: nothing of the head of a lemma is missing
abbrev pub may_end : OpenPart → Bool
may_end (behind_variables variables) = false
may_end (behind_left variables left) = false
may_end part = true

-- Whether a line with this first word stands among the covers or in a tree: a cover or a tree behind covers, a tree behind a
-- finished tree, and whatever stands where a tree waits for a line.
abbrev pub stands_early : OpenPart → List ℕ → Bool
stands_early among_covers word = bytes_eq word (codes "cover") || bytes_eq word (codes "tree")
stands_early (in_tree []) word = bytes_eq word (codes "tree")
stands_early (in_tree (pattern ∷ patterns)) word = true
stands_early part word = false

-- Where a text stops to read: the line that is told, and whether what does not read stands among the covers or in a tree.
pub record Stop : Type 0 where
  pub line : ℕ
  pub early : Bool

-- What a text comes to: the certificate that was read, to the end or to where it stops.
pub record ReadText : Type 0 where
  pub certificate : Certificate
  pub stop : Option Stop

abbrev pub stopped_reading : ReadSoFar → ℕ → Bool → ReadText
stopped_reading reading line early =
    record { certificate = reading.certificate; stop = Some (record { line = line; early = early }) }

abbrev pub stopped_at : ReadSoFar → ℕ → List ℕ → ReadText
stopped_at reading told line = stopped_reading reading told (stands_early reading.part (cut_at_blank line).word)

-- The lines from this number on come to this, behind what was read. The last part of a text is no line; it is empty where the last
-- line ends with its line feed.
pub data LinesReadTo (signature : Signature) : ℕ → ReadSoFar → List (List ℕ) → ReadText → Type 0 where
  ends : {number : ℕ} {reading : ReadSoFar} → IsTrue (may_end reading.part)
      → LinesReadTo signature number reading ([] ∷ []) (record { certificate = reading.certificate; stop = None })
  -- a line of the head of a lemma is missing
  lacks_a_line : {number : ℕ} {reading : ReadSoFar} → IsFalse (may_end reading.part)
      → LinesReadTo signature number reading ([] ∷ []) (stopped_reading reading number false)
  -- the last line lacks its line feed
  lacks_line_feed : {number byte : ℕ} {bytes : List ℕ} {reading : ReadSoFar}
      → LinesReadTo signature number reading ((byte ∷ bytes) ∷ []) (stopped_at reading number (byte ∷ bytes))
  goes_on : {number : ℕ} {reading : ReadSoFar} {line next : List ℕ} {parts : List (List ℕ)} {text : ReadText} (piece : Piece)
      → LineGives signature reading line piece
      → LinesReadTo signature (suc number) (with_piece reading piece) (next ∷ parts) text
      → LinesReadTo signature number reading (line ∷ next ∷ parts) text
  stops : {number : ℕ} {reading : ReadSoFar} {line next : List ℕ} {parts : List (List ℕ)}
      → ((piece : Piece) → ¬ LineGives signature reading line piece)
      → ¬ FailsWithLeft signature (task_behind signature reading line)
      → LinesReadTo signature number reading (line ∷ next ∷ parts) (stopped_at reading number line)
  -- the two sides have no pair of readings, or several, which is told at the line of the left one
  stops_at_left : {told : ℕ} {reading : ReadSoFar} {line next : List ℕ} {parts : List (List ℕ)}
      → FailsWithLeft signature (task_behind signature reading line)
      → LinesReadTo signature (suc told) reading (line ∷ next ∷ parts) (stopped_at reading told line)

-- the text comes to this
abbrev pub TextComesTo : Signature → List ℕ → ReadText → Type 0
TextComesTo signature text read = LinesReadTo signature 1 nothing_read (parts_at 10 text) read

-- The text is read as the certificate.
abbrev pub IsReadAsInduction : Signature → List ℕ → Certificate → Type 0
IsReadAsInduction signature text certificate = TextComesTo signature text (record { certificate = certificate; stop = None })

-- ---- The first fault

-- The fault of what was read comes before the stop: it stands at an earlier line, where an operation that lacks a tree, whose line
-- is that of a cover, is looked at as soon as a line comes that stands neither among the covers nor in a tree, or at the end.
abbrev pub ComesBeforeStop : Stop → ℕ → InductionFault → Type 0
ComesBeforeStop stop line fault =
    (((f : ℕ) → ¬ (fault ≡ no_tree f)) × (line < stop.line)) ⊎ ((f : ℕ) × (fault ≡ no_tree f) × IsFalse stop.early)

-- The first fault of the text: that of the whole certificate, that of what was read where it comes before the stop, or the stop.
pub data IsTextFault (theory : Theory) (text : List ℕ) : ℕ → InductionFault → Type 0 where
  in_certificate : {line : ℕ} {fault : InductionFault} {certificate : Certificate}
      → IsReadAsInduction theory.data_.signature text certificate → IsInductionFault theory certificate line fault
      → IsTextFault theory text line fault
  before_stop : {line : ℕ} {fault : InductionFault} {certificate : Certificate} {stop : Stop}
      → TextComesTo theory.data_.signature text (record { certificate = certificate; stop = Some stop })
      → IsInductionFault theory certificate line fault → ComesBeforeStop stop line fault → IsTextFault theory text line fault
  at_stop : {certificate : Certificate} {stop : Stop}
      → TextComesTo theory.data_.signature text (record { certificate = certificate; stop = Some stop })
      → ((line : ℕ) (fault : InductionFault) → IsInductionFault theory certificate line fault → ¬ ComesBeforeStop stop line fault)
      → IsTextFault theory text stop.line bad_line
