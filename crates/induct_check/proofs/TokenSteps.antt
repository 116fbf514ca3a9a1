-- Tokens of variables, one after another.
use Rattle.std.proofs.Common.{◌≡◌, ◌<◌, ◌≤◌, ℕ, suc, List, [], Bool, true, false, None, Some, length, drop, get_or, drop-cons, refl, ap, sym, ◌∙◌}
use Rattle.std.proofs.Math.ListN.{drop_of_length-le}
use Rattle.std.proofs.lemmas.Option.{same_Some}
use Rattle.lotos_lexer.specs.declared.tokens.Token.{Token}
use Rattle.lotos_rows.specs.Names.{AreVariables}
use Rattle.syntax_trees.specs.WrittenVariable.{WrittenVariable}
use Rattle.induct_check.specs.VariableStates.{Awaited, comma_or_end, VariablesRead, none_read, read_token, read_tokens, read_on}
use Rattle.induct_check.specs.VariableView.{VariablesGoOn, awaited_of}
use Rattle.induct_check.specs.declared.variables.Awaited.{Awaited as CodeAwaited}
use Rattle.induct_check.specs.declared.variables.Awaited.TheVariants.{Name, CommaOrColon, Sort, CommaOrEnd}
use Rattle.induct_check.proofs.VariableLemmas.{variables_read, are_variables, none_stays}

pub awaits_end : (awaited : CodeAwaited) → awaited_of awaited ≡ comma_or_end → awaited ≡ CommaOrEnd
awaits_end Name e = absurd (cc e)
awaits_end CommaOrColon e = absurd (cc e)
awaits_end Sort e = absurd (cc e)
awaits_end CommaOrEnd e = refl

leads_nowhere : (fits : Bool) (read behind : VariablesRead) (text : List ℕ) (token : Token) → fits ≡ false
    → VariablesGoOn fits (read_token text read token) behind → read_token text read token ≡ None
leads_nowhere true read behind text token is h = absurd (cc is)
leads_nowhere false read behind text token is h = h

-- behind a token that may not stand there nothing is read
pub stuck_token : (text : List ℕ) (tokens : List Token) (read behind : VariablesRead) (i : ℕ) (d : Token) (fits : Bool)
    (ws : List WrittenVariable) → i < length tokens → fits ≡ false → VariablesGoOn fits (read_token text read (get_or tokens i d)) behind
    → read_tokens text none_read tokens ≡ read_tokens text read (drop i tokens) → AreVariables text tokens ws → ⊥
stuck_token text tokens read behind i d fits ws within is goes so_far are =
    let none : read_tokens text none_read tokens ≡ None =
    so_far
    ∙ (ap (λ (ts : List Token). read_tokens text read ts) (drop-cons tokens i d within)
    ∙ (ap (λ o. read_on text o (drop (suc i) tokens)) (leads_nowhere fits read behind text (get_or tokens i d) is goes)
    ∙ none_stays text (drop (suc i) tokens))) in
    let both = sym none ∙ variables_read text tokens ws are in
    cc both

ends_with : (text : List ℕ) (tokens : List Token) (read : VariablesRead) (i : ℕ) → length tokens ≤ i
    → read_tokens text none_read tokens ≡ read_tokens text read (drop i tokens) → read_tokens text none_read tokens ≡ Some read
ends_with text tokens read i past so_far =
    so_far ∙ ap (λ (ts : List Token). read_tokens text read ts) (drop_of_length-le tokens past)

pub tokens_done : (text : List ℕ) (tokens : List Token) (read : VariablesRead) (i : ℕ) → length tokens ≤ i → read.awaited ≡ comma_or_end
    → read_tokens text none_read tokens ≡ read_tokens text read (drop i tokens) → AreVariables text tokens read.variables
tokens_done text tokens read i past end so_far =
    are_variables text tokens read.variables read.names
    (ends_with text tokens read i past so_far
    ∙ ap (λ (a : Awaited). Some (record { variables = read.variables; names = read.names; awaited = a })) end)

pub tokens_open : (text : List ℕ) (tokens : List Token) (read : VariablesRead) (i : ℕ) (ws : List WrittenVariable) → length tokens ≤ i
    → (read.awaited ≡ comma_or_end → ⊥) → read_tokens text none_read tokens ≡ read_tokens text read (drop i tokens)
    → AreVariables text tokens ws → ⊥
tokens_open text tokens read i ws past open_ so_far are =
    open_ (ap (λ (r : VariablesRead). r.awaited)
    (same_Some read (record { variables = ws; names = []; awaited = comma_or_end })
    (sym (ends_with text tokens read i past so_far) ∙ variables_read text tokens ws are)))
