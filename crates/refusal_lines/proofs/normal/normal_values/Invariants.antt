use Rattle.std.proofs.Common.{◌≡◌, ◌++◌, map, drop}
use Rattle.behaviour_tree.specs.BehaviourTerms.{profiles_of}
use Rattle.behaviour_tree.specs.BehaviourView.{terms_of}
use Rattle.behaviour_tree.specs.Over.{AreTermsOf}
use Rattle.equation_book.specs.BookCanon.{book_canon}
use Rattle.sort_terms.specs.EquationView.{data_of}
use Rattle.refusal_lines.proofs.normal.normal_values.Given as goal

-- the values before this one are in normal form
abbrev pub invariant-loop-value : goal.invariant-loop-value
invariant-loop-value l = record {
  flat : l.book.flat ≡ l.fn.book.flat;
  joined : l.book.joined ≡ l.fn.book.joined;
  normal : terms_of l.made.items ++ map (book_canon l.fn.book) (terms_of (drop l.value-index l.values))
      ≡ map (book_canon l.fn.book) (terms_of l.values);
  profiles : AreTermsOf (data_of l.fn.book.flat).signature (profiles_of l.made.items);
  left : AreTermsOf (data_of l.fn.book.flat).signature (profiles_of (drop l.value-index l.values));
}
