-- The four grammars have the rows of LOTOS, and one token ahead decides them; kept tokens stand in front in each row.
use Rattle.std.proofs.Common.{◌≡◌, ◌∙◌, true, List, refl, ap}
use Rattle.std.specs.List.{list_all}
use Rattle.ll_engine.specs.Derivation.{Production}
use Rattle.ll_engine.specs.Fold.{kept_in_front}
use Rattle.ll_engine.specs.Language.{ContextFree}
use Rattle.ll_engine.proofs.KeptSets.{predictive_after}
use Rattle.lotos_rows.specs.Kept.{is_kept_kind}
use Rattle.lotos_rows.specs.declared.starts.TheConstants as starts
use Rattle.lotos_rows.specs.Rows.{rows, grammar_from}
use Rattle.tree_building.specs.LotosGrammar.{IsLotosGrammar}

pub of_specifications : IsLotosGrammar (grammar_from starts.SPEC)
unfolding rows grammar_from
of_specifications = record { lotos_rows = refl; well_formed = refl; predictive = predictive_after 6 (grammar_from starts.SPEC) refl }

pub of_types : IsLotosGrammar (grammar_from starts.TYPETEXT)
unfolding rows grammar_from
of_types = record { lotos_rows = refl; well_formed = refl; predictive = predictive_after 6 (grammar_from starts.TYPETEXT) refl }

pub of_order_files : IsLotosGrammar (grammar_from starts.ORDER)
unfolding rows grammar_from
of_order_files = record { lotos_rows = refl; well_formed = refl; predictive = predictive_after 6 (grammar_from starts.ORDER) refl }

pub of_terms : IsLotosGrammar (grammar_from starts.TERMS)
unfolding rows grammar_from
of_terms = record { lotos_rows = refl; well_formed = refl; predictive = predictive_after 6 (grammar_from starts.TERMS) refl }

kept_rows : list_all (λ row. kept_in_front is_kept_kind row.right) rows ≡ true
unfolding rows
kept_rows = refl

pub kept_in_rows : (g : ContextFree) → IsLotosGrammar g → list_all (λ row. kept_in_front is_kept_kind row.right) g.rows ≡ true
kept_in_rows g is = ap (λ (all : List Production). list_all (λ row. kept_in_front is_kept_kind row.right) all) is.lotos_rows ∙ kept_rows
