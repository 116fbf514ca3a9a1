-- The variables of a lemma, by the text that writes them.
use Rattle.std.proofs.Common.{◌≡◌, ℕ, List, Option, Some, sym, ◌∙◌, subst}
use Rattle.lotos_base.specs.Equation.{Variable}
use Rattle.lotos_base.specs.Signature.{Signature}
use Rattle.lotos_lexer.specs.declared.tokens.Token.{Token}
use Rattle.lotos_lexer.specs.Tokens as lexed
use Rattle.lotos_rows.specs.Names.{AreVariables}
use Rattle.syntax_trees.specs.WrittenVariable.{WrittenVariable}
use Rattle.induct_check.specs.CertificateReading.{AreVariablesIn, HaveOwnNames, AreNumbered, AreLemmaVariables}
use Rattle.induct_check.proofs.VariableLemmas.{variables_once}

tokens_once : (some other : List Token) → lexed.Tokens some ≡ lexed.Tokens other → some ≡ other
tokens_once some other e = cc e

pub written_once : (text : List ℕ) (some other : List WrittenVariable) → AreVariablesIn text some → AreVariablesIn text other → some ≡ other
written_once text some other h k =
    variables_once text k.0 some other
    (subst (λ (ts : List Token). AreVariables text ts some) (tokens_once h.0 k.0 (sym h.1 ∙ k.1)) h.2) k.2

by_text : (signature : Signature) (o : Option (List ℕ)) (text : List ℕ) (vs : List Variable) → o ≡ Some text
    → AreLemmaVariables signature o vs → AreLemmaVariables signature (Some text) vs
by_text signature o text vs is are = subst (λ (p : Option (List ℕ)). AreLemmaVariables signature p vs) is are

pub not_written : (signature : Signature) (o : Option (List ℕ)) (text : List ℕ) (vs : List Variable) → o ≡ Some text
    → ((ws : List WrittenVariable) → ¬ AreVariablesIn text ws) → AreLemmaVariables signature o vs → ⊥
not_written signature o text vs is none are =
    let h = by_text signature o text vs is are in
    none h.0 h.1

pub not_numbered : (signature : Signature) (o : Option (List ℕ)) (text : List ℕ) (ws : List WrittenVariable) (vs : List Variable)
    → o ≡ Some text → AreVariablesIn text ws → ((us : List Variable) → HaveOwnNames ws → ¬ AreNumbered signature ws us)
    → AreLemmaVariables signature o vs → ⊥
not_numbered signature o text ws vs is written none are =
    let h = by_text signature o text vs is are in
    let same : h.0 ≡ ws = written_once text h.0 ws h.1 written in
    none vs (subst (λ (xs : List WrittenVariable). HaveOwnNames xs) same h.2)
    (subst (λ (xs : List WrittenVariable). AreNumbered signature xs vs) same h.3)

pub are_numbered : (signature : Signature) (o : Option (List ℕ)) (text : List ℕ) (ws : List WrittenVariable) (vs : List Variable)
    → o ≡ Some text → AreVariablesIn text ws → HaveOwnNames ws → AreNumbered signature ws vs → AreLemmaVariables signature o vs
are_numbered signature o text ws vs is written apart numbered =
    subst (λ (p : Option (List ℕ)). AreLemmaVariables signature p vs) (sym is) (ws, written, apart, numbered)
