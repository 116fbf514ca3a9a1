-- What stays where the types are taken out of a tree, and where processes have other names.
use Rattle.std.proofs.Common.{◌≡◌, ℕ, suc, List, [], ◌∷◌, refl, ap, sym, ◌∙◌, subst}
use Rattle.syntax_trees.specs.WrittenDefinition.{WrittenInner, WrittenInners, inner_item, process, no_inner, inner_then, inners_of, list_of_inners}
use Rattle.syntax_trees.specs.TakenItems.{process_then as with_process, processes_of}
use Rattle.syntax_trees.specs.ReadableTrees.{IsReadableInner, AreReadableInners}
use Rattle.syntax_trees.proofs.TakingItems.{listed-again}
use Rattle.behaviour_semantics.specs.Behaviour.{Process}
use Rattle.printed_texts.specs.BehaviourText.{Naming}
use Rattle.declaration_laws.specs.SameSpecification.{AreSameProcesses}
use Rattle.session_laws.specs.WrittenSpecifications.{AreProcessesWritten, renamed_processes}
use Rattle.session_laws.specs.FullLists.{InnerHasFullLists, InnersHaveFullLists, TextListsStay}
use Rattle.session_laws.specs.FlatWordLaws.{FlatTreesStay, RenamedSpecificationsAreSame}

-- ---- Lists

mutual
  first_full : (first : WrittenInner) (others : WrittenInners) → InnerHasFullLists first → InnersHaveFullLists others
      → InnersHaveFullLists (with_process first others)
  first_full (inner_item item) others full rest = rest
  first_full (process heading body inner) others full rest = ((full.0, inners_full inner full.1), rest)

  inners_full : (inners : WrittenInners) → InnersHaveFullLists inners → InnersHaveFullLists (processes_of inners)
  inners_full no_inner full = tt
  inners_full (inner_then first others) full = first_full first (processes_of others) full.0 (inners_full others full.1)

mutual
  first_readable : (first : WrittenInner) (others : WrittenInners) → IsReadableInner first → AreReadableInners others
      → AreReadableInners (with_process first others)
  first_readable (inner_item item) others readable rest = rest
  first_readable (process heading body inner) others readable rest = ((readable.0, inners_readable inner readable.1), rest)

  inners_readable : (inners : WrittenInners) → AreReadableInners inners → AreReadableInners (processes_of inners)
  inners_readable no_inner readable = tt
  inners_readable (inner_then first others) readable =
      first_readable first (processes_of others) readable.0 (inners_readable others readable.1)

pub text_lists_stay : TextListsStay
text_lists_stay tree lists = record {
  body = lists.body;
  inner = subst InnersHaveFullLists (sym listed) (inners_full (inners_of tree.inner) lists.inner);
  body_gates = lists.body_gates;
  inner_gates = subst AreReadableInners (sym listed) (inners_readable (inners_of tree.inner) lists.inner_gates);
}
  where
    listed : inners_of (list_of_inners (processes_of (inners_of tree.inner))) ≡ processes_of (inners_of tree.inner)
    listed = listed-again (processes_of (inners_of tree.inner))

-- ---- Flat trees

-- processes without a `where` are all that there is
only_processes : (naming : Naming) (next : ℕ) (ps : List Process) (ws : WrittenInners) → AreProcessesWritten naming next ps ws
    → processes_of ws ≡ ws
only_processes naming next [] no_inner writes = refl
only_processes naming next [] (inner_then w ws) writes = absurd writes
only_processes naming next (p ∷ ps) no_inner writes = absurd writes
only_processes naming next (p ∷ ps) (inner_then (inner_item item) ws) writes = absurd writes
only_processes naming next (p ∷ ps) (inner_then (process heading body (inner_then w rest)) ws) writes = absurd writes
only_processes naming next (p ∷ ps) (inner_then (process heading body no_inner) ws) writes =
    ap (λ (vs : WrittenInners). inner_then (process heading body no_inner) vs) (only_processes naming (suc next) ps ws writes.2)

pub flat_trees_stay : FlatTreesStay
flat_trees_stay naming specification tree flatly = record {
  named = flatly.named;
  whole = flatly.whole;
  processes =
      subst (λ (ws : WrittenInners). AreProcessesWritten naming 0 specification.processes ws)
      (sym (listed-again (processes_of (inners_of tree.inner))
      ∙ only_processes naming 0 specification.processes (inners_of tree.inner) flatly.processes))
      flatly.processes;
}

-- ---- Names of processes

same_processes : (naming : Naming) (next : ℕ) (ps : List Process) → AreSameProcesses ps (renamed_processes naming next ps)
same_processes naming next [] = tt
same_processes naming next (p ∷ ps) =
    (record { gates = refl; parameters = refl; exit = refl; body = refl }, same_processes naming (suc next) ps)

pub renamed_specifications_are_same : RenamedSpecificationsAreSame
renamed_specifications_are_same naming specification = record {
  name = refl;
  gate_names = refl;
  gates = refl;
  parameters = refl;
  exit = refl;
  body = refl;
  processes = same_processes naming 0 specification.processes;
}
