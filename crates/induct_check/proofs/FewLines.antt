-- A certificate has no more lines than its text.
use Rattle.std.proofs.Common.{◌≡◌, ◌≤◌, ◌<◌, ◌+◌, ◌==◌, ℕ, suc, List, [], ◌∷◌, ◌++◌, Bool, true, false, Option, None, Some, length, if◌then◌else◌, refl, sym, subst, arith}
use Rattle.lotos_base.specs.Equation.{Variable}
use Rattle.lotos_base.specs.Signature.{Signature}
use Rattle.lotos_base.specs.WrittenTerm.{WrittenTerm}
use Rattle.certificate_theory.specs.Patterns.{Pattern}
use Rattle.induct_parts.specs.HandedOn.{Cover, TreeLine, split_pattern, leaf_here, PatternTree, ProofLine, Lemma, lines_of_trees, lines_of_tree, lines_of_lemma}
use Rattle.induct_parts.specs.CertificateView.{lines_of_lemmas, lines_of_certificate}
use Rattle.induct_check.specs.CertificateLines.{LineForm, cover_form, tree_form, split_form, lemma_form, left_form, right_form, use_form, leaf_form, same_form, no_form, line_form_of, path_of, byte_before, parts_at}
use Rattle.induct_check.specs.CertificateReading.{OpenPart, among_covers, in_tree, behind_variables, behind_left, in_proof, NamedCase, ReadSoFar, LineTask, read_cover, read_tree, tree_line, read_variables, read_left, read_right, proof_line, no_task, among_covers_task, pattern_split, first_line, in_tree_task, left_task, right_task, variable_split, in_proof_task, line_task_of, Piece, new_cover, new_tree, new_tree_line, new_variables, new_left, new_lemma, new_proof_line, GivesPiece, with_last, tree_with, lemma_with, stated_lemma, tree_behind, proof_behind, with_piece}
use Rattle.induct_check.specs.TextFaults.{ReadText, LinesReadTo, ends, lacks_a_line, lacks_line_feed, goes_on, stops, stops_at_left}

-- the lines of the head of a lemma that were read, where its proof has not begun
abbrev waiting : OpenPart → ℕ
waiting among_covers = 0
waiting (in_tree left) = 0
waiting (behind_variables variables) = 1
waiting (behind_left variables left) = 2
waiting (in_proof left) = 0

abbrev asks_behind : LineTask → ℕ
asks_behind (read_cover sort items) = 0
asks_behind (read_tree item) = 0
asks_behind (tree_line line patterns) = 0
asks_behind (read_variables text) = 0
asks_behind (read_left variables term) = 1
asks_behind (read_right variables left term) = 2
asks_behind (proof_line line cases) = 0
asks_behind no_task = 0

among_asks : (form : LineForm) → asks_behind (among_covers_task form) ≤ 0
among_asks (cover_form s t) = omega arith
among_asks (tree_form t) = omega arith
among_asks (split_form w) = omega arith
among_asks (lemma_form v) = omega arith
among_asks (left_form t) = omega arith
among_asks (right_form t) = omega arith
among_asks (use_form u) = omega arith
among_asks leaf_form = omega arith
among_asks same_form = omega arith
among_asks no_form = omega arith

line_asks : (signature : Signature) (covers : List Cover) (left : List Pattern) (line : TreeLine)
    → asks_behind (first_line signature covers left line) ≤ 0
line_asks signature covers [] line = omega arith
line_asks signature covers (p ∷ ps) line = omega arith

pattern_asks : (signature : Signature) (covers : List Cover) (left : List Pattern) (path : Option (List ℕ))
    → asks_behind (pattern_split signature covers left path) ≤ 0
pattern_asks signature covers left None = omega arith
pattern_asks signature covers left (Some path) = line_asks signature covers left (split_pattern path)

tree_asks : (signature : Signature) (covers : List Cover) (left : List Pattern) (form : LineForm)
    → asks_behind (in_tree_task signature covers left form) ≤ 0
tree_asks signature covers left (cover_form s t) = omega arith
tree_asks signature covers left (tree_form t) = omega arith
tree_asks signature covers left (split_form w) = pattern_asks signature covers left (path_of w)
tree_asks signature covers left (lemma_form v) = omega arith
tree_asks signature covers left (left_form t) = omega arith
tree_asks signature covers left (right_form t) = omega arith
tree_asks signature covers left (use_form u) = omega arith
tree_asks signature covers left leaf_form = line_asks signature covers left leaf_here
tree_asks signature covers left same_form = omega arith
tree_asks signature covers left no_form = omega arith

left_asks : (variables : List Variable) (form : LineForm) → asks_behind (left_task variables form) ≤ 1
left_asks variables (cover_form s t) = omega arith
left_asks variables (tree_form t) = omega arith
left_asks variables (split_form w) = omega arith
left_asks variables (lemma_form v) = omega arith
left_asks variables (left_form t) = omega arith
left_asks variables (right_form t) = omega arith
left_asks variables (use_form u) = omega arith
left_asks variables leaf_form = omega arith
left_asks variables same_form = omega arith
left_asks variables no_form = omega arith

right_asks : (variables : List Variable) (left : WrittenTerm) (form : LineForm) → asks_behind (right_task variables left form) ≤ 2
right_asks variables left (cover_form s t) = omega arith
right_asks variables left (tree_form t) = omega arith
right_asks variables left (split_form w) = omega arith
right_asks variables left (lemma_form v) = omega arith
right_asks variables left (left_form t) = omega arith
right_asks variables left (right_form t) = omega arith
right_asks variables left (use_form u) = omega arith
right_asks variables left leaf_form = omega arith
right_asks variables left same_form = omega arith
right_asks variables left no_form = omega arith

split_asks : (signature : Signature) (covers : List Cover) (left : List NamedCase) (name : List ℕ)
    → asks_behind (variable_split signature covers left name) ≤ 0
split_asks signature covers [] name = omega arith
split_asks signature covers (point ∷ points) name = omega arith

proof_asks : (signature : Signature) (covers : List Cover) (left : List NamedCase) (form : LineForm)
    → asks_behind (in_proof_task signature covers left form) ≤ 0
proof_asks signature covers left (cover_form s t) = omega arith
proof_asks signature covers left (tree_form t) = omega arith
proof_asks signature covers left (split_form w) = split_asks signature covers left w
proof_asks signature covers left (lemma_form v) = omega arith
proof_asks signature covers left (left_form t) = omega arith
proof_asks signature covers left (right_form t) = omega arith
proof_asks signature covers left (use_form u) = omega arith
proof_asks signature covers left leaf_form = omega arith
proof_asks signature covers left same_form = omega arith
proof_asks signature covers left no_form = omega arith

task_asks : (signature : Signature) (covers : List Cover) (part : OpenPart) (form : LineForm)
    → asks_behind (line_task_of signature covers part form) ≤ waiting part
task_asks signature covers among_covers form = among_asks form
task_asks signature covers (in_tree left) form = tree_asks signature covers left form
task_asks signature covers (behind_variables variables) form = left_asks variables form
task_asks signature covers (behind_left variables left) form = right_asks variables left form
task_asks signature covers (in_proof left) form = proof_asks signature covers left form

-- ---- Lines with a piece

more_covers : (covers : List Cover) (cover : Cover) → length (covers ++ cover ∷ []) ≡ length covers + 1
more_covers [] cover = refl
more_covers (c ∷ cs) cover = omega (arith, more_covers cs cover)

more_trees : (trees : List PatternTree) (tree : PatternTree)
    → lines_of_trees (trees ++ tree ∷ []) ≡ lines_of_trees trees + lines_of_tree tree
more_trees [] tree = omega arith
more_trees (t ∷ ts) tree = omega (arith, more_trees ts tree)

more_lemmas : (lemmas : List Lemma) (lemma : Lemma) → lines_of_lemmas (lemmas ++ lemma ∷ []) ≡ lines_of_lemmas lemmas + lines_of_lemma lemma
more_lemmas [] lemma = omega arith
more_lemmas (l ∷ ls) lemma = omega (arith, more_lemmas ls lemma)

more_lines : {X : Type 0} (xs : List X) (x : X) → length (xs ++ x ∷ []) ≡ length xs + 1
more_lines [] x = refl
more_lines (y ∷ ys) x = omega (arith, more_lines ys x)

tree_line_more : (line : TreeLine) (trees : List PatternTree) → lines_of_trees (with_last (tree_with line) trees) ≤ lines_of_trees trees + 1
tree_line_more line [] = omega arith
tree_line_more line (t ∷ []) = omega (arith, more_lines t.lines line)
tree_line_more line (t ∷ u ∷ ts) = omega (arith, tree_line_more line (u ∷ ts))

proof_line_more : (line : ProofLine) (lemmas : List Lemma)
    → lines_of_lemmas (with_last (lemma_with line) lemmas) ≤ lines_of_lemmas lemmas + 1
proof_line_more line [] = omega arith
proof_line_more line (l ∷ []) = omega (arith, more_lines l.lines line)
proof_line_more line (l ∷ m ∷ ls) = omega (arith, proof_line_more line (m ∷ ls))

abbrev read_lines : ReadSoFar → ℕ
read_lines reading = lines_of_certificate reading.certificate + waiting reading.part

same_waiting : (cases : Option (List NamedCase)) (part : OpenPart) → waiting (proof_behind cases part) ≡ waiting part
same_waiting cases among_covers = refl
same_waiting cases (in_tree left) = refl
same_waiting cases (behind_variables variables) = refl
same_waiting cases (behind_left variables left) = refl
same_waiting cases (in_proof left) = refl

tree_waiting : (patterns : List Pattern) (part : OpenPart) → waiting (tree_behind patterns part) ≡ waiting part
tree_waiting patterns among_covers = refl
tree_waiting patterns (in_tree left) = refl
tree_waiting patterns (behind_variables variables) = refl
tree_waiting patterns (behind_left variables left) = refl
tree_waiting patterns (in_proof left) = refl

-- what a piece adds, where so many lines of a head must have been read for it
abbrev needs : Piece → ℕ
needs (new_cover cover) = 0
needs (new_tree f pattern) = 0
needs (new_tree_line line patterns) = 0
needs (new_variables variables) = 0
needs (new_left variables left) = 1
needs (new_lemma variables statement) = 2
needs (new_proof_line line cases) = 0

one_more : (reading : ReadSoFar) (piece : Piece) → needs piece ≤ waiting reading.part
    → read_lines (with_piece reading piece) ≤ read_lines reading + 1
one_more reading (new_cover cover) enough = omega (arith, more_covers reading.certificate.covers cover)
one_more reading (new_tree f pattern) enough =
    omega (arith, more_trees reading.certificate.trees (record { operation = f; lines = [] }))
one_more reading (new_tree_line line patterns) enough =
    omega (arith, tree_line_more line reading.certificate.trees, tree_waiting patterns reading.part)
one_more reading (new_variables variables) enough = omega arith
one_more reading (new_left variables left) enough = omega (arith, enough)
one_more reading (new_lemma variables statement) enough =
    omega (arith, enough, more_lemmas reading.certificate.lemmas (stated_lemma variables statement))
one_more reading (new_proof_line line cases) enough =
    omega (arith, proof_line_more line reading.certificate.lemmas, same_waiting cases reading.part)

piece_needs : (signature : Signature) (task : LineTask) (piece : Piece) → GivesPiece signature task piece → needs piece ≤ asks_behind task
piece_needs signature (read_cover sort items) piece h = subst (λ (p : Piece). needs p ≤ 0) (sym h.2) (omega arith)
piece_needs signature (read_tree item) piece h = subst (λ (p : Piece). needs p ≤ 0) (sym h.4) (omega arith)
piece_needs signature (tree_line line patterns) piece h = subst (λ (p : Piece). needs p ≤ 0) (sym h) (omega arith)
piece_needs signature (read_variables text) piece h = subst (λ (p : Piece). needs p ≤ 0) (sym h.2) (omega arith)
piece_needs signature (read_left variables term) piece h = subst (λ (p : Piece). needs p ≤ 1) (sym h.2) (omega arith)
piece_needs signature (read_right variables left term) piece h = subst (λ (p : Piece). needs p ≤ 2) (sym h.4) (omega arith)
piece_needs signature (proof_line line cases) piece h = subst (λ (p : Piece). needs p ≤ 0) (sym h) (omega arith)
piece_needs signature no_task piece h = absurd h

-- ---- All lines

few : (signature : Signature) (number : ℕ) (reading : ReadSoFar) (parts : List (List ℕ)) (text : ReadText)
    → LinesReadTo signature number reading parts text → lines_of_certificate text.certificate + 1 ≤ read_lines reading + length parts
few signature number reading parts text (ends done) = omega arith
few signature number reading parts text (lacks_a_line open_) = omega arith
few signature number reading parts text lacks_line_feed = omega arith
few signature number reading parts text (goes_on {line = line} {next = next} {parts = more} piece gives rest) =
    let task = line_task_of signature reading.certificate.covers reading.part (line_form_of line) in
    let enough : needs piece ≤ asks_behind task = piece_needs signature task piece gives in
    let asked : asks_behind task ≤ waiting reading.part = task_asks signature reading.certificate.covers reading.part (line_form_of line) in
    let added : read_lines (with_piece reading piece) ≤ read_lines reading + 1 = one_more reading piece (omega (arith, enough, asked)) in
    let left = few signature (suc number) (with_piece reading piece) (next ∷ more) text rest in
    omega (arith, added, left)
few signature number reading parts text (stops none not_left) = omega arith
few signature number reading parts text (stops_at_left fails) = omega arith

parts_before_some : (byte : ℕ) (parts : List (List ℕ)) → 0 < length parts → length (byte_before byte parts) ≡ length parts
parts_before_some byte [] some = absurd (omega (arith, some))
parts_before_some byte (p ∷ ps) some = refl

pub some_parts : (separator : ℕ) (bytes : List ℕ) → 0 < length (parts_at separator bytes)
some_parts separator [] = omega arith
some_parts separator (byte ∷ bytes) = by (byte == separator)
  where
    before_some : (parts : List (List ℕ)) → 0 < length (byte_before byte parts)
    before_some [] = omega arith
    before_some (p ∷ ps) = omega arith

    by : (b : Bool) → 0 < length (if b then [] ∷ parts_at separator bytes else byte_before byte (parts_at separator bytes))
    by true = omega arith
    by false = before_some (parts_at separator bytes)

parts_by : (separator byte : ℕ) (bytes : List ℕ) (b : Bool) → length (parts_at separator bytes) ≤ length bytes + 1
    → length (if b then [] ∷ parts_at separator bytes else byte_before byte (parts_at separator bytes)) ≤ suc (length bytes) + 1
parts_by separator byte bytes true few_rest = omega (arith, few_rest)
parts_by separator byte bytes false few_rest =
    omega (arith, few_rest, parts_before_some byte (parts_at separator bytes) (some_parts separator bytes))

pub few_parts : (separator : ℕ) (bytes : List ℕ) → length (parts_at separator bytes) ≤ length bytes + 1
few_parts separator [] = omega arith
few_parts separator (byte ∷ bytes) = parts_by separator byte bytes (byte == separator) (few_parts separator bytes)

pub few_lines : (signature : Signature) (text : List ℕ) (reading : ReadSoFar) (read : ReadText) → read_lines reading ≡ 0
    → LinesReadTo signature 1 reading (parts_at 10 text) read → lines_of_certificate read.certificate ≤ length text
few_lines signature text reading read none comes =
    omega (arith, none, few signature 1 reading (parts_at 10 text) read comes, few_parts 10 text)
