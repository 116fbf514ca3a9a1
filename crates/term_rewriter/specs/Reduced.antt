-- Instances of a term by irreducible terms.
use Rattle.std.specs.Prelude.{List}
use Rattle.lotos_base.specs.Signature.{Signature}
use Rattle.rewriting_theory.specs.Rule.{Rule}
use Rattle.sort_terms.specs.ProfiledTerm.{ProfiledTerm, ProfiledTerms, profiled_variable, profiled_node, no_profiled_terms, profiled_term_then}
use Rattle.term_rewriter.specs.Form.{IsNormalOf}

abbrev mutual
  -- The second term has an operation where the first one has one, and an irreducible term of the signature where the first one
  -- has a variable.
  pub IsReducedBelow : Signature → List Rule → ProfiledTerm → ProfiledTerm → Type 0
  IsReducedBelow signature rules (profiled_variable n s) t = IsNormalOf signature rules t
  IsReducedBelow signature rules (profiled_node f operation ss) (profiled_variable n s) = ⊥
  IsReducedBelow signature rules (profiled_node f operation ss) (profiled_node g other ts) = AreReducedBelow signature rules ss ts

  -- The same for the terms of two lists.
  pub AreReducedBelow : Signature → List Rule → ProfiledTerms → ProfiledTerms → Type 0
  AreReducedBelow signature rules no_profiled_terms no_profiled_terms = Unit {0}
  AreReducedBelow signature rules no_profiled_terms (profiled_term_then t ts) = ⊥
  AreReducedBelow signature rules (profiled_term_then s ss) no_profiled_terms = ⊥
  AreReducedBelow signature rules (profiled_term_then s ss) (profiled_term_then t ts) =
      IsReducedBelow signature rules s t × AreReducedBelow signature rules ss ts
