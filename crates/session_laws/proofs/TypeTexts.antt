-- The text of the type of data is cut into the words of the type.
use Rattle.std.proofs.Common.{◌≡◌, inl, inr, ℕ, false, List, [], ◌∷◌, ◌++◌, map, length, refl, ap, sym, ◌∙◌, subst, arith, append_assoc, codes}
use Rattle.std.specs.Prelude.{Option, Some, slice_get, flat_map}
use Rattle.std.specs.List.{concat}
use Rattle.lotos_base.proofs.Members.{member_at}
use Rattle.lotos_base.proofs.SortLemmas.{sort_of_sorted}
use Rattle.lotos_base.specs.Signature.{Signature, Sort, Operation, Form, prefix_form, infix_form, IsSort, IsOperation, IsWellFormedSignature}
use Rattle.lotos_base.specs.Sorting.{Occurs, OccursAmong, head_sort_of}
use Rattle.lotos_base.specs.Term.{Term, Terms, variable, node, no_terms, term_then}
use Rattle.lotos_base.specs.Equation.{Variable, Equation, Data, IsEquationOver, IsWellFormedData}
use Rattle.lotos_lexer.specs.declared.kinds.TheConstants.{TYPE, NAME, IS, SORTS, OPNS, EQNS, OFSORT, FORALL, ENDTYPE, UNDERSCORE, COLON, ARROW, EQUALS, SEMICOLON}
use Rattle.lotos_lexer.specs.Lexemes.{underscore_before}
use Rattle.behaviour_semantics.specs.WellFormed.{Every}
use Rattle.behaviour_semantics.proofs.InstanceLemmas.{every_at}
use Rattle.behaviour_semantics.proofs.EveryLemmas.{every_map, every_from}
use Rattle.printed_texts.specs.Brackets.{commas}
use Rattle.printed_texts.specs.TermText.{sort_name, sort_text, variable_text, term_text}
use Rattle.session_laws.specs.TextNames.{IsWordSpelling, IsOperationSpelling, HasTextNames}
use Rattle.session_laws.proofs.PartsOfText.{apart}
use Rattle.flat_text.specs.DataText.{line, sorts_lines, operator_name, argument_sorts, operation_line, operations_lines, sorted_variable, for_all, sort_if_any, equation_line, equations_lines, data_lines, data_text}
use Rattle.flat_text.specs.EquationNames.{equation_names, renamed_variables}
use Rattle.session_laws.specs.PrintedWords.{Word, a_word, name_word, operation_word, declared_words, declarations_words, term_words}
use Rattle.session_laws.specs.TermTextLaws.{HasNamedVariables, HaveNamedVariables}
use Rattle.session_laws.specs.TypeWords.{sort_list_words, operator_words, argument_words, operation_line_words, operations_words, data_naming, for_all_words, equation_line_words, equations_words, type_words_over, type_words}
use Rattle.session_laws.specs.BehaviourTextLaws.{IsVariableNamed}
use Rattle.session_laws.specs.TypeTextLaws.{TypeTextsAreWords}
use Rattle.session_laws.specs.CutTexts.{AreWhole}
use Rattle.session_laws.proofs.Extending.{word_cut, Extends, StaysApart, extends_joined, name_extends, operation_extends}
use Rattle.session_laws.proofs.Joining.{five_assoc, equals_whole}
use Rattle.session_laws.proofs.ExtendingParts.{ends_extend, nothing_ends, ends_joined, ends_before, ends_behind, space_ends, blank_ends, line_ends, word_ends, commas_extend, lines_end}
use Rattle.session_laws.proofs.TermTexts.{term_matches, whole_cut}
use Rattle.session_laws.proofs.Given.{sort_within}
use Rattle.session_laws.proofs.Variables.{from_named}
use Rattle.session_laws.proofs.VariableNames.{renamed_are_words, declared_is_word}

-- ---- Signs

colon_ends : AreWhole (codes " : ") (a_word COLON (codes ":") ∷ [])
colon_ends =
    space_ends (codes ": ") (a_word COLON (codes ":") ∷ [])
    (word_ends COLON (codes ":") 32 (omega arith) refl (λ rest. refl) refl)

arrow_ends : AreWhole (codes "-> ") (a_word ARROW (codes "->") ∷ [])
arrow_ends = word_ends ARROW (codes "->") 32 (omega arith) refl (λ rest. refl) refl

semicolon_ends : AreWhole (codes ";") (a_word SEMICOLON (codes ";") ∷ [])
semicolon_ends rest more cut = word_cut false (a_word SEMICOLON (codes ";")) rest more (omega arith) refl cut

underscore_ends : AreWhole (codes "_") (a_word UNDERSCORE (codes "_") ∷ [])
underscore_ends rest more cut = word_cut false (a_word UNDERSCORE (codes "_")) rest more (omega arith) refl cut

underscore_stays : StaysApart (codes "_")
underscore_stays rest is = apart 95 rest (ap underscore_before is.no_word) refl

-- ---- The words of an equation

line_words : (f l e r s : List Word) → (((f ++ l) ++ e) ++ r) ++ s ≡ f ++ ((l ++ (e ++ r)) ++ s)
line_words f l e r s =
    ap (λ (ws : List Word). ws ++ s) (append_assoc (f ++ l) e r ∙ append_assoc f l (e ++ r)) ∙ append_assoc f (l ++ (e ++ r)) s

module _ (signature : Signature) (fine : IsWellFormedSignature signature) (spelled : HasTextNames signature) where
  -- ---- Sorts

  sort_extends : (sort : ℕ) → IsSort signature sort → Extends (sort_text signature sort) (name_word (sort_text signature sort) ∷ [])
  sort_extends sort within =
      let s = member_at signature.sorts sort within in
      let named : sort_text signature sort ≡ s.0.name = ap sort_name s.1 in
      name_extends (sort_text signature sort) (subst IsWordSpelling (sym named) (spelled.sorts sort s.0 s.1))

  -- ---- Operations

  operator_extends : (form : Form) (name : List ℕ) → IsOperationSpelling name
      → Extends (operator_name form name) (operator_words form name)
  operator_extends prefix_form name is = operation_extends name is
  operator_extends infix_form name is =
      let sign : List Word = a_word UNDERSCORE (codes "_") ∷ [] in
      extends_joined (codes "_" ++ name) (codes "_") (sign ++ operation_word name ∷ []) sign
      (ends_before (codes "_") name sign (operation_word name ∷ []) underscore_ends (operation_extends name is)) underscore_stays
      (ends_extend (codes "_") sign underscore_ends)

  arguments_end : (sorts : List ℕ) → Every (IsSort signature) sorts
      → AreWhole (argument_sorts signature sorts) (argument_words signature sorts)
  arguments_end [] all = nothing_ends
  arguments_end (s ∷ ss) all =
      blank_ends (commas (map (sort_text signature) (s ∷ ss))) (argument_words signature (s ∷ ss))
      (commas_extend (sort_text signature) (λ (r : ℕ). name_word (sort_text signature r) ∷ []) s ss
      (every_map (IsSort signature) (λ (r : ℕ). Extends (sort_text signature r) (name_word (sort_text signature r) ∷ [])) sort_extends
      (s ∷ ss) all))

  operation_ends : (f : ℕ) (o : Operation) → IsOperation signature f o
      → AreWhole (operation_line signature o) (operation_line_words signature o)
  operation_ends f o at =
      let name : List ℕ = operator_name o.form o.name in
      let name_words : List Word = operator_words o.form o.name in
      let sorts : List ℕ = argument_sorts signature o.arguments in
      let sorts_words : List Word = argument_words signature o.arguments in
      let colon : List Word = a_word COLON (codes ":") ∷ [] in
      let arrow : List Word = a_word ARROW (codes "->") ∷ [] in
      let result : List Word = name_word (sort_text signature o.result) ∷ [] in
      line_ends (name ++ codes " : " ++ sorts ++ codes "-> " ++ sort_text signature o.result) (operation_line_words signature o)
      (subst (λ (ws : List Word). Extends (name ++ codes " : " ++ sorts ++ codes "-> " ++ sort_text signature o.result) ws)
      (five_assoc name_words colon sorts_words arrow result)
      (ends_before (name ++ codes " : " ++ sorts ++ codes "-> ") (sort_text signature o.result)
      (((name_words ++ colon) ++ sorts_words) ++ arrow) result
      (ends_joined (name ++ codes " : " ++ sorts) (codes "-> ") ((name_words ++ colon) ++ sorts_words) arrow
      (ends_joined (name ++ codes " : ") sorts (name_words ++ colon) sorts_words
      (ends_behind name (codes " : ") name_words colon (operator_extends o.form o.name (spelled.operations f o at))
      (λ rest. apart 32 (codes ": " ++ rest) refl refl) colon_ends)
      (arguments_end o.arguments
      (every_from (IsSort signature) o.arguments (λ i s there. fine.arguments f i s o at there))))
      arrow_ends)
      (sort_extends o.result (fine.results f o at))))

  opns_end : AreWhole (line (codes "opns")) (a_word OPNS (codes "opns") ∷ [])
  opns_end = word_ends OPNS (codes "opns") 10 (omega arith) refl (λ rest. refl) refl

  operations_end : (operations : List Operation)
      → Every (λ (o : Operation). AreWhole (operation_line signature o) (operation_line_words signature o)) operations
      → AreWhole (operations_lines signature operations) (operations_words signature operations)
  operations_end [] all = nothing_ends
  operations_end (o ∷ os) all =
      ends_joined (line (codes "opns")) (concat (map (operation_line signature) (o ∷ os))) (a_word OPNS (codes "opns") ∷ [])
      (flat_map (operation_line_words signature) (o ∷ os)) opns_end
      (lines_end (operation_line signature) (operation_line_words signature) (o ∷ os) all)

  -- ---- Equations

  mutual
    named_by_words : (names : List Variable) (t : Term) → ((n s : ℕ) → Occurs n s t → IsWordSpelling (variable_text names n))
        → HasNamedVariables names t
    named_by_words names (variable n s) all = all n s (refl, refl)
    named_by_words names (node f ts) all = all_named_by_words names ts all

    all_named_by_words : (names : List Variable) (ts : Terms)
        → ((n s : ℕ) → OccursAmong n s ts → IsWordSpelling (variable_text names n)) → HaveNamedVariables names ts
    all_named_by_words names no_terms all = tt
    all_named_by_words names (term_then t ts) all = (
      named_by_words names t (λ n s occurs. all n s (inl occurs)),
      all_named_by_words names ts (λ n s occurs. all n s (inr occurs)),
    )

  -- a declared variable with its sort
  variable_extends : (x : Variable) → IsVariableNamed x → IsSort signature x.sort
      → Extends (sorted_variable signature x) (declared_words (data_naming signature) x)
  variable_extends x named within =
      ends_before (x.name ++ codes " : ") (sort_text signature x.sort) (name_word x.name ∷ a_word COLON (codes ":") ∷ [])
      (name_word (sort_text signature x.sort) ∷ [])
      (ends_behind x.name (codes " : ") (name_word x.name ∷ []) (a_word COLON (codes ":") ∷ []) (name_extends x.name named)
      (λ rest. apart 32 (codes ": " ++ rest) refl refl) colon_ends)
      (sort_extends x.sort within)

  forall_ends : AreWhole (codes "forall ") (a_word FORALL (codes "forall") ∷ [])
  forall_ends = word_ends FORALL (codes "forall") 32 (omega arith) refl (λ rest. refl) refl

  for_all_ends : (xs : List Variable) → Every (λ (x : Variable). IsVariableNamed x × IsSort signature x.sort) xs
      → AreWhole (for_all signature xs) (for_all_words signature xs)
  for_all_ends [] all = nothing_ends
  for_all_ends (x ∷ xs) all =
      let listed : List ℕ = commas (map (sorted_variable signature) (x ∷ xs)) in
      let words : List Word = declarations_words (data_naming signature) (x ∷ xs) in
      blank_ends (codes "forall " ++ listed) (a_word FORALL (codes "forall") ∷ words)
      (ends_before (codes "forall ") listed (a_word FORALL (codes "forall") ∷ []) words forall_ends
      (commas_extend (sorted_variable signature) (declared_words (data_naming signature)) x xs
      (every_map (λ (y : Variable). IsVariableNamed y × IsSort signature y.sort)
      (λ (y : Variable). Extends (sorted_variable signature y) (declared_words (data_naming signature) y))
      (λ y is. variable_extends y is.0 is.1) (x ∷ xs) all)))

  ofsort_ends : AreWhole (codes "ofsort ") (a_word OFSORT (codes "ofsort") ∷ [])
  ofsort_ends = word_ends OFSORT (codes "ofsort") 32 (omega arith) refl (λ rest. refl) refl

  side_extends : (e : Equation) (t : Term) → ((n s : ℕ) → Occurs n s t → IsWordSpelling (variable_text (renamed_variables signature e) n))
      → Extends (term_text signature (renamed_variables signature e) t) (term_words signature (renamed_variables signature e) t)
  side_extends e t named =
      let xs : List Variable = renamed_variables signature e in
      (term_matches signature fine spelled xs t (named_by_words xs t named)).extends

  sides_sort_extends : (e : Equation) → IsEquationOver signature e
      → Extends (sort_if_any signature (head_sort_of signature e.left))
      (name_word (sort_if_any signature (head_sort_of signature e.left)) ∷ [])
  sides_sort_extends e over =
      let sorted : head_sort_of signature e.left ≡ Some over.sort = sort_of_sorted signature e.left over.sort over.left_sort in
      subst (λ (found : Option ℕ). Extends (sort_if_any signature found) (name_word (sort_if_any signature found) ∷ [])) (sym sorted)
      (sort_extends over.sort (sort_within signature e.left over.sort over.left_sort fine))

  equation_ends : (e : Equation) → IsEquationOver signature e → AreWhole (equation_line signature e) (equation_line_words signature e)
  equation_ends e over =
      let xs : List Variable = renamed_variables signature e in
      let sort : List ℕ = sort_if_any signature (head_sort_of signature e.left) in
      let all : List ℕ = for_all signature xs in
      let left : List ℕ = term_text signature xs e.left in
      let right : List ℕ = term_text signature xs e.right in
      let head : List Word = a_word OFSORT (codes "ofsort") ∷ name_word sort ∷ [] in
      let all_words : List Word = for_all_words signature xs in
      let left_words : List Word = term_words signature xs e.left in
      let right_words : List Word = term_words signature xs e.right in
      let equals : List Word = a_word EQUALS (codes "=") ∷ [] in
      let end : List Word = a_word SEMICOLON (codes ";") ∷ [] in
      line_ends (codes "ofsort " ++ sort ++ codes " " ++ all ++ left ++ codes " = " ++ right ++ codes ";") (equation_line_words signature e)
      (subst
      (λ (ws : List Word). Extends (codes "ofsort " ++ sort ++ codes " " ++ all ++ left ++ codes " = " ++ right ++ codes ";")
      (a_word OFSORT (codes "ofsort") ∷ name_word sort ∷ ws))
      (line_words all_words left_words equals right_words end)
      (extends_joined (codes "ofsort " ++ sort ++ codes " " ++ all ++ left ++ codes " = " ++ right) (codes ";")
      ((((head ++ all_words) ++ left_words) ++ equals) ++ right_words) end
      (ends_before (codes "ofsort " ++ sort ++ codes " " ++ all ++ left ++ codes " = ") right
      (((head ++ all_words) ++ left_words) ++ equals) right_words
      (ends_behind (codes "ofsort " ++ sort ++ codes " " ++ all ++ left) (codes " = ") ((head ++ all_words) ++ left_words) equals
      (ends_before (codes "ofsort " ++ sort ++ codes " " ++ all) left (head ++ all_words) left_words
      (ends_joined (codes "ofsort " ++ sort ++ codes " ") all head all_words
      (blank_ends (codes "ofsort " ++ sort) head
      (ends_before (codes "ofsort ") sort (a_word OFSORT (codes "ofsort") ∷ []) (name_word sort ∷ []) ofsort_ends
      (sides_sort_extends e over)))
      (for_all_ends xs (every_from (λ (x : Variable). IsVariableNamed x × IsSort signature x.sort) xs known)))
      (side_extends e e.left (λ n s occurs. declared_is_word signature e n s (over.left_declared n s occurs))))
      (λ rest. apart 32 (codes "= " ++ rest) refl refl) equals_whole)
      (side_extends e e.right (λ n s occurs. declared_is_word signature e n s (over.right_declared n s occurs))))
      (λ rest is. apart 59 rest refl refl) (ends_extend (codes ";") end semicolon_ends)))
    where
      known : (i : ℕ) (x : Variable) → slice_get (renamed_variables signature e) i ≡ Some x → IsVariableNamed x × IsSort signature x.sort
      known i x at =
          let from = from_named (equation_names signature (length e.variables)) e.variables i x at in (
            every_at IsVariableNamed (renamed_variables signature e) i x (renamed_are_words signature e) at,
            subst (IsSort signature) (sym from.sort_is)
                (over.variable_sorts from.before.number from.before.sort (i, from.before, from.there, refl, refl)),
          )

  eqns_end : AreWhole (line (codes "eqns")) (a_word EQNS (codes "eqns") ∷ [])
  eqns_end = word_ends EQNS (codes "eqns") 10 (omega arith) refl (λ rest. refl) refl

  equations_end : (equations : List Equation)
      → Every (λ (e : Equation). AreWhole (equation_line signature e) (equation_line_words signature e)) equations
      → AreWhole (equations_lines signature equations) (equations_words signature equations)
  equations_end [] all = nothing_ends
  equations_end (e ∷ es) all =
      ends_joined (line (codes "eqns")) (concat (map (equation_line signature) (e ∷ es))) (a_word EQNS (codes "eqns") ∷ [])
      (flat_map (equation_line_words signature) (e ∷ es)) eqns_end
      (lines_end (equation_line signature) (equation_line_words signature) (e ∷ es) all)

-- ---- The type

type_ends : AreWhole (line (codes "type Data is")) (a_word TYPE (codes "type") ∷ name_word (codes "Data") ∷ a_word IS (codes "is") ∷ [])
type_ends =
    ends_joined (codes "type Data ") (codes "is\n") (a_word TYPE (codes "type") ∷ name_word (codes "Data") ∷ [])
    (a_word IS (codes "is") ∷ [])
    (ends_joined (codes "type ") (codes "Data ") (a_word TYPE (codes "type") ∷ []) (name_word (codes "Data") ∷ [])
    (word_ends TYPE (codes "type") 32 (omega arith) refl (λ rest. refl) refl)
    (word_ends NAME (codes "Data") 32 (omega arith) refl (λ rest. refl) refl))
    (word_ends IS (codes "is") 10 (omega arith) refl (λ rest. refl) refl)

sorts_word_ends : AreWhole (codes "sorts ") (a_word SORTS (codes "sorts") ∷ [])
sorts_word_ends = word_ends SORTS (codes "sorts") 32 (omega arith) refl (λ rest. refl) refl

end_ends : AreWhole (line (codes "endtype")) (a_word ENDTYPE (codes "endtype") ∷ [])
end_ends = word_ends ENDTYPE (codes "endtype") 10 (omega arith) refl (λ rest. refl) refl

sorts_end : (s : Sort) (ss : List Sort) → Every (λ (r : Sort). IsWordSpelling r.name) (s ∷ ss)
    → AreWhole (sorts_lines (s ∷ ss)) (a_word SORTS (codes "sorts") ∷ sort_list_words (s ∷ ss))
sorts_end s ss all =
    let listed : List ℕ = commas (map (λ (r : Sort). r.name) (s ∷ ss)) in
    line_ends (codes "sorts " ++ listed) (a_word SORTS (codes "sorts") ∷ sort_list_words (s ∷ ss))
    (ends_before (codes "sorts ") listed (a_word SORTS (codes "sorts") ∷ []) (sort_list_words (s ∷ ss)) sorts_word_ends
    (commas_extend (λ (r : Sort). r.name) (λ (r : Sort). name_word r.name ∷ []) s ss
    (every_map (λ (r : Sort). IsWordSpelling r.name) (λ (r : Sort). Extends r.name (name_word r.name ∷ []))
    (λ r is. name_extends r.name is) (s ∷ ss) all)))

module _ (data_ : Data) (well : IsWellFormedData data_) (spelled : HasTextNames data_.signature) where
  abbrev signature : Signature
  signature = data_.signature

  lines_over : (sorts : List Sort) → Every (λ (r : Sort). IsWordSpelling r.name) sorts
      → AreWhole (data_lines data_ sorts) (type_words_over data_ sorts)
  lines_over [] all = nothing_ends
  lines_over (s ∷ ss) all =
      let first : List Word = a_word TYPE (codes "type") ∷ name_word (codes "Data") ∷ a_word IS (codes "is") ∷ [] in
      let sorts : List Word = a_word SORTS (codes "sorts") ∷ sort_list_words (s ∷ ss) in
      let operations : List Word = operations_words signature signature.operations in
      let equations : List Word = equations_words signature data_.equations in
      let end : List Word = a_word ENDTYPE (codes "endtype") ∷ [] in
      subst (λ (ws : List Word). AreWhole (data_lines data_ (s ∷ ss)) (first ++ (ws ++ end)))
      (append_assoc sorts operations equations)
      (ends_joined
      (line (codes "type Data is") ++ sorts_lines (s ∷ ss) ++ operations_lines signature signature.operations
      ++ equations_lines signature data_.equations) (line (codes "endtype")) (first ++ ((sorts ++ operations) ++ equations)) end
      (ends_joined
      (line (codes "type Data is") ++ sorts_lines (s ∷ ss) ++ operations_lines signature signature.operations)
      (equations_lines signature data_.equations) (first ++ (sorts ++ operations)) equations
      (ends_joined (line (codes "type Data is") ++ sorts_lines (s ∷ ss)) (operations_lines signature signature.operations) (first ++ sorts)
      operations
      (ends_joined (line (codes "type Data is")) (sorts_lines (s ∷ ss)) first sorts type_ends (sorts_end s ss all))
      (operations_end signature well.signature spelled signature.operations
      (every_from (λ (o : Operation). AreWhole (operation_line signature o) (operation_line_words signature o)) signature.operations
      (operation_ends signature well.signature spelled))))
      (equations_end signature well.signature spelled data_.equations
      (every_from (λ (e : Equation). AreWhole (equation_line signature e) (equation_line_words signature e)) data_.equations
      (λ i e at. equation_ends signature well.signature spelled e (well.equations e (i, at))))))
      end_ends)

  pub types_end : AreWhole (data_text data_) (type_words data_)
  types_end =
      lines_over data_.signature.sorts
      (every_from (λ (r : Sort). IsWordSpelling r.name) data_.signature.sorts (λ i r at. spelled.sorts i r at))

  pub types_extend : Extends (data_text data_) (type_words data_)
  types_extend = ends_extend (data_text data_) (type_words data_) types_end

pub type_texts_are_words : TypeTextsAreWords
type_texts_are_words = record {
  whole = λ data_ well spelled. types_end data_ well spelled;
  alone = λ number data_ well spelled. whole_cut number (data_text data_) (type_words data_) (types_extend data_ well spelled);
}
