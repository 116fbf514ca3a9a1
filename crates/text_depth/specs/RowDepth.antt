-- What each row keeps of its part, from what is kept of the parts of its right side.
use Rattle.std.specs.Prelude.{ℕ, List, [], ◌∷◌, ◌++◌, fold, Option, Some, None, option_and_then, slice_get}
use Rattle.lotos_base.specs.Equation.{Place}
use Rattle.lotos_lexer.specs.declared.tokens.Token.{Token}
use Rattle.lotos_rows.specs.Names.{place_of}
use Rattle.lotos_rows.specs.declared.row_names.RowName.{RowName}
use Rattle.lotos_rows.specs.declared.row_names.RowName.TheVariants as of_subject
use Rattle.lotos_rows.specs.declared.names.NamesRow.{NamesRow}
use Rattle.lotos_rows.specs.declared.names.NamesRow.TheVariants as name_row
use Rattle.lotos_rows.specs.declared.terms.TermsRow.{TermsRow}
use Rattle.lotos_rows.specs.declared.terms.TermsRow.TheVariants as term_row
use Rattle.lotos_rows.specs.declared.types.TypesRow.{TypesRow}
use Rattle.lotos_rows.specs.declared.types.TypesRow.TheVariants as type_row
use Rattle.lotos_rows.specs.declared.equations.EquationsRow.{EquationsRow}
use Rattle.lotos_rows.specs.declared.equations.EquationsRow.TheVariants as equation_row
use Rattle.lotos_rows.specs.declared.behaviours.BehavioursRow.{BehavioursRow}
use Rattle.lotos_rows.specs.declared.behaviours.BehavioursRow.TheVariants as behaviour_row
use Rattle.lotos_rows.specs.declared.definitions.DefinitionsRow.{DefinitionsRow}
use Rattle.lotos_rows.specs.declared.definitions.DefinitionsRow.TheVariants as definition_row
use Rattle.lotos_rows.specs.declared.starts.StartsRow.{StartsRow}
use Rattle.lotos_rows.specs.declared.starts.StartsRow.TheVariants as start_row
use Rattle.lotos_rows.specs.Rows.{row_names}
use Rattle.syntax_trees.specs.Grouping.{grouped}
use Rattle.syntax_trees.specs.Firsts.{Firsts, first_from, no_nodes, everywhere, firsts_followed, firsts_below, firsts_between}
use Rattle.syntax_trees.specs.TreeFirsts.{names_firsts}
use Rattle.text_depth.specs.DepthPart.{DepthPart, of_names, of_firsts, of_flat, of_choice, before_first_operand}

abbrev pub or_no_nodes : Option Firsts → Firsts
or_no_nodes None = no_nodes
or_no_nodes (Some firsts) = firsts

-- the first nodes of the tree of a flat list
abbrev pub grouped_firsts : DepthPart → Firsts
grouped_firsts part = or_no_nodes (grouped (λ strength. strength) (λ strength. firsts_between) part.operands part.strengths)

-- of a tree that counts from its own root: its first node that is too deep
abbrev pub closed_firsts : ℕ → Firsts → Firsts
closed_firsts limit firsts = everywhere (first_from firsts limit)

abbrev pub closed_part : ℕ → DepthPart → Firsts
closed_part limit part = closed_firsts limit (firsts_followed part.firsts (grouped_firsts part))

abbrev pub closed_parts : ℕ → List DepthPart → Firsts
closed_parts limit [] = no_nodes
closed_parts limit (part ∷ parts) = firsts_followed (closed_part limit part) (closed_parts limit parts)

-- parts each of which counts from its own root
abbrev pub closing_parts : ℕ → List DepthPart → Option DepthPart
closing_parts limit parts = Some (of_firsts (closed_parts limit parts))

abbrev pub both_depth_parts : DepthPart → DepthPart → DepthPart
both_depth_parts some others = record {
  names = some.names ++ others.names;
  firsts = firsts_followed some.firsts others.firsts;
  operands = some.operands ++ others.operands;
  strengths = some.strengths ++ others.strengths;
}

-- lists one behind the other
abbrev pub joined_parts : List DepthPart → DepthPart
joined_parts [] = of_names []
joined_parts (part ∷ []) = part
joined_parts (part ∷ next ∷ parts) = both_depth_parts part (joined_parts (next ∷ parts))

abbrev pub parts_together : List DepthPart → Option DepthPart
parts_together parts = Some (joined_parts parts)

abbrev pub at_token : Option Token → (Place → Option DepthPart) → Option DepthPart
at_token None next = None
at_token (Some token) next = next (place_of token)

abbrev pub at_name : DepthPart → (Place → Option DepthPart) → Option DepthPart
at_name part next = option_and_then next (slice_get part.names 0)

-- the name that is the row's token
abbrev pub token_name : Option Token → Option DepthPart
token_name token = at_token token (λ place. Some (of_names (place ∷ [])))

-- two lists with one name between them, or a list of names
abbrev pub around_middle : List DepthPart → Option DepthPart
around_middle (first ∷ middle ∷ last ∷ others) = Some (both_depth_parts first last)
around_middle _ = None

-- a term of its factors
abbrev pub left_grouped : List DepthPart → Option DepthPart
left_grouped (first ∷ more ∷ others) = Some (of_firsts (fold firsts_between first.firsts more.operands))
left_grouped _ = None

-- an operation, a factor, and more of them
abbrev pub factor_first : List DepthPart → Option DepthPart
factor_first (operation ∷ factor ∷ more ∷ others) = Some (of_flat (factor.firsts ∷ more.operands) [])
factor_first _ = None

-- a name with its arguments
abbrev pub applied_name : List DepthPart → Option DepthPart
applied_name (name ∷ arguments ∷ mark ∷ others) = at_name name (λ place. Some (of_firsts (firsts_below place arguments.firsts)))
applied_name _ = None

-- a term in brackets
abbrev pub bracketed_term : List DepthPart → Option DepthPart
bracketed_term (inside ∷ mark ∷ others) = Some (of_firsts inside.firsts)
bracketed_term _ = None

abbrev pub one_operand : Firsts → Option DepthPart
one_operand operand = Some (of_flat (operand ∷ []) [])

-- a word, names or values, and a behaviour
abbrev pub word_form : Option Token → List DepthPart → Option DepthPart
word_form token (before ∷ inside ∷ others) = at_token token
    (λ place. one_operand (firsts_below place (firsts_followed before.firsts (grouped_firsts inside))))
word_form token _ = None

-- `choice`: names, and the rest of it
abbrev pub choice_form : List DepthPart → Option DepthPart
choice_form (names ∷ end ∷ others) = one_operand (names_firsts (names.names ++ end.names) end.firsts)
choice_form _ = None

-- `par`: gates, the sign, and a behaviour
abbrev pub par_form : List DepthPart → Option DepthPart
par_form (gates ∷ sign ∷ inside ∷ others) = one_operand (names_firsts gates.names (grouped_firsts inside))
par_form _ = None

abbrev pub below_first : Place → List Firsts → List Firsts
below_first place [] = []
below_first place (first ∷ others) = firsts_below place first ∷ others

-- a node in front of the first operand
abbrev pub node_in_front : Place → DepthPart → Option DepthPart
node_in_front place flat = Some (of_flat (below_first place flat.operands) flat.strengths)

abbrev pub inner_prefix : Option Token → List DepthPart → Option DepthPart
inner_prefix token (flat ∷ others) = at_token token (λ place. node_in_front place flat)
inner_prefix token _ = None

-- a premiss before a flat list, or offers before an action
abbrev pub with_terms_before : DepthPart → DepthPart → DepthPart
with_terms_before terms flat = of_flat (before_first_operand terms.firsts flat.operands) flat.strengths

abbrev pub terms_before : List DepthPart → Option DepthPart
terms_before (terms ∷ flat ∷ others) = Some (with_terms_before terms flat)
terms_before _ = None

abbrev pub guard_prefix : Option Token → List DepthPart → Option DepthPart
guard_prefix token (test ∷ flat ∷ others) = at_token token (λ place. node_in_front place (with_terms_before test flat))
guard_prefix token _ = None

-- a gate or a process, and what stands behind it
abbrev pub named_first : List DepthPart → Option DepthPart
named_first (name ∷ end ∷ others) = at_name name (λ place. node_in_front place end)
named_first _ = None

abbrev pub first_operand : Firsts → DepthPart → Option DepthPart
first_operand operand tail = Some (of_flat (operand ∷ tail.operands) tail.strengths)

abbrev pub call_end : ℕ → List DepthPart → Option DepthPart
call_end limit (gates ∷ values ∷ tail ∷ others) = first_operand (closed_firsts limit values.firsts) tail
call_end limit _ = None

abbrev pub stop_first : Option Token → List DepthPart → Option DepthPart
stop_first token (tail ∷ others) = at_token token (λ place. first_operand (firsts_below place no_nodes) tail)
stop_first token _ = None

abbrev pub exit_first : Option Token → List DepthPart → Option DepthPart
exit_first token (values ∷ tail ∷ others) = at_token token (λ place. first_operand (firsts_below place values.firsts) tail)
exit_first token _ = None

abbrev pub bracket_first : List DepthPart → Option DepthPart
bracket_first (inside ∷ tail ∷ others) = first_operand (grouped_firsts inside) tail
bracket_first _ = None

abbrev pub end_of_choice : List DepthPart → Option DepthPart
end_of_choice (first ∷ names ∷ inside ∷ others) = Some (of_choice names.names inside.firsts)
end_of_choice _ = None

abbrev pub chosen_part : List DepthPart → Option DepthPart
chosen_part (inside ∷ others) = Some (of_firsts (grouped_firsts inside))
chosen_part _ = None

abbrev pub sign_part : ℕ → Option DepthPart
sign_part strength = Some (of_flat [] (strength ∷ []))

abbrev pub names_row_depth : ℕ → NamesRow → Option Token → List DepthPart → Option DepthPart
names_row_depth limit name_row.Name token parts = token_name token
names_row_depth limit name_row.DigitName token parts = token_name token
names_row_depth limit name_row.SignName token parts = token_name token
names_row_depth limit name_row.Variables token parts = around_middle parts
names_row_depth limit name_row.PrefixOperation token parts = closing_parts limit parts
names_row_depth limit name_row.InfixOperation token parts = closing_parts limit parts
names_row_depth limit name_row.Profile token parts = closing_parts limit parts
names_row_depth limit other token parts = parts_together parts

abbrev pub terms_row_depth : TermsRow → Option Token → List DepthPart → Option DepthPart
terms_row_depth term_row.Term token parts = left_grouped parts
terms_row_depth term_row.MoreFactors token parts = factor_first parts
terms_row_depth term_row.AppliedFactor token parts = applied_name parts
terms_row_depth term_row.BracketedFactor token parts = bracketed_term parts
terms_row_depth other token parts = parts_together parts

abbrev pub types_row_depth : ℕ → TypesRow → List DepthPart → Option DepthPart
types_row_depth limit type_row.NoFormalSorts parts = parts_together parts
types_row_depth limit type_row.FormalSorts parts = parts_together parts
types_row_depth limit type_row.NoSorts parts = parts_together parts
types_row_depth limit type_row.Sorts parts = parts_together parts
types_row_depth limit other parts = closing_parts limit parts

abbrev pub equations_row_depth : ℕ → EquationsRow → List DepthPart → Option DepthPart
equations_row_depth limit equation_row.NoVariablesForAll parts = parts_together parts
equations_row_depth limit equation_row.VariablesForAll parts = parts_together parts
equations_row_depth limit other parts = closing_parts limit parts

abbrev pub behaviours_row_depth : ℕ → BehavioursRow → Option Token → List DepthPart → Option DepthPart
behaviours_row_depth limit behaviour_row.Hide token parts = word_form token parts
behaviours_row_depth limit behaviour_row.Let token parts = word_form token parts
behaviours_row_depth limit behaviour_row.Choice token parts = choice_form parts
behaviours_row_depth limit behaviour_row.Par token parts = par_form parts
behaviours_row_depth limit behaviour_row.Internal token parts = inner_prefix token parts
behaviours_row_depth limit behaviour_row.Guarded token parts = guard_prefix token parts
behaviours_row_depth limit behaviour_row.NameFirst token parts = named_first parts
behaviours_row_depth limit behaviour_row.Stop token parts = stop_first token parts
behaviours_row_depth limit behaviour_row.Exit token parts = exit_first token parts
behaviours_row_depth limit behaviour_row.BracketedBehaviour token parts = bracket_first parts
behaviours_row_depth limit behaviour_row.NoBehaviourTail token parts = parts_together parts
behaviours_row_depth limit behaviour_row.BehaviourTail token parts = parts_together parts
behaviours_row_depth limit behaviour_row.ActionWithoutOffers token parts = parts_together parts
behaviours_row_depth limit behaviour_row.ActionWithOffers token parts = terms_before parts
behaviours_row_depth limit behaviour_row.Call token parts = call_end limit parts
behaviours_row_depth limit behaviour_row.OneMoreOffer token parts = terms_before parts
behaviours_row_depth limit behaviour_row.SelectionAfterOffers token parts = terms_before parts
behaviours_row_depth limit behaviour_row.PrefixAfterOffers token parts = parts_together parts
behaviours_row_depth limit behaviour_row.ChoiceOfValues token parts = end_of_choice parts
behaviours_row_depth limit behaviour_row.ChoiceOfGates token parts = end_of_choice parts
behaviours_row_depth limit behaviour_row.Chosen token parts = chosen_part parts
behaviours_row_depth limit behaviour_row.GateChoices token parts = around_middle parts
behaviours_row_depth limit behaviour_row.NoMoreGateChoices token parts = parts_together parts
behaviours_row_depth limit behaviour_row.MoreGateChoices token parts = parts_together parts
behaviours_row_depth limit behaviour_row.ChoiceSign token parts = sign_part 3
behaviours_row_depth limit behaviour_row.ParallelSign token parts = parts_together parts
behaviours_row_depth limit behaviour_row.DisablingSign token parts = sign_part 1
behaviours_row_depth limit behaviour_row.EnablingSign token parts = sign_part 0
behaviours_row_depth limit behaviour_row.Interleaving token parts = sign_part 2
behaviours_row_depth limit behaviour_row.FullSynchronisation token parts = sign_part 2
behaviours_row_depth limit behaviour_row.GateSynchronisation token parts = sign_part 2
behaviours_row_depth limit behaviour_row.NoAccept token parts = parts_together parts
behaviours_row_depth limit behaviour_row.Accept token parts = parts_together parts
behaviours_row_depth limit other token parts = closing_parts limit parts

abbrev pub definitions_row_depth : ℕ → DefinitionsRow → List DepthPart → Option DepthPart
definitions_row_depth limit definition_row.NoParameters parts = parts_together parts
definitions_row_depth limit definition_row.Parameters parts = parts_together parts
definitions_row_depth limit definition_row.NoExitSorts parts = parts_together parts
definitions_row_depth limit definition_row.ExitSorts parts = parts_together parts
definitions_row_depth limit other parts = closing_parts limit parts

abbrev pub starts_row_depth : ℕ → StartsRow → List DepthPart → Option DepthPart
starts_row_depth limit start_row.NoTerms parts = parts_together parts
starts_row_depth limit start_row.Terms parts = parts_together parts
starts_row_depth limit other parts = closing_parts limit parts

-- a row by its name
abbrev pub row_depth : ℕ → RowName → Option Token → List DepthPart → Option DepthPart
row_depth limit (of_subject.Names row) token parts = names_row_depth limit row token parts
row_depth limit (of_subject.Terms row) token parts = terms_row_depth row token parts
row_depth limit (of_subject.Types row) token parts = types_row_depth limit row parts
row_depth limit (of_subject.Equations row) token parts = equations_row_depth limit row parts
row_depth limit (of_subject.Renamings row) token parts = closing_parts limit parts
row_depth limit (of_subject.Behaviours row) token parts = behaviours_row_depth limit row token parts
row_depth limit (of_subject.Definitions row) token parts = definitions_row_depth limit row parts
row_depth limit (of_subject.Specification row) token parts = closing_parts limit parts
row_depth limit (of_subject.Starts row) token parts = starts_row_depth limit row parts

-- a row by its number
abbrev pub numbered_row_depth : ℕ → ℕ → Option Token → List DepthPart → Option DepthPart
numbered_row_depth limit number token parts = option_and_then (λ row. row_depth limit row token parts) (slice_get row_names number)
