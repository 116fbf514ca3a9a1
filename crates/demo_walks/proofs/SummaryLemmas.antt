-- The summary, part by part.
use Rattle.std.proofs.Common.{◌≡◌, ℕ, List, [], ◌++◌, length, map, codes, decimal, Option, option_map, sym, ap, ◌∙◌, subst}
use Rattle.history_lines.proofs.HandedOn.{over_same}
use Rattle.lotos_base.proofs.Pieces.{two_pieces}
use Rattle.lotos_base.specs.Equation.{Data}
use Rattle.lotos_base.specs.Term.{Term}
use Rattle.lotos_base.specs.Name.{spelling}
use Rattle.sort_terms.specs.EquationView.{data_of}
use Rattle.sort_terms.specs.SignatureView.{signature_of}
use Rattle.sort_terms.specs.declared.equations.Flat.{Flat}
use Rattle.behaviour_semantics.specs.Label.{Label}
use Rattle.history_lines.specs.HandedOn.{Progress, opened_progress, basis_over, past_of, progress_of, situation_of, Course, Past, Session, label_of}
use Rattle.history_lines.specs.HandedOn.{Spec}
use Rattle.demo_walks.specs.DemoWalk.{WalkValues, AreWalkValues, GoesThrough, walk_steps}
use Rattle.demo_walks.specs.DemoSummary.{IsSummary, entries_seen, sizes_line, summary_text, text_of_last}
use Rattle.demo_walks.specs.WalkView.{IsOnWalk, walk_reached, written_summary}
use Rattle.demo_walks.specs.declared.tallies.Tally.{Tally}
use Rattle.demo_walks.proofs.WalkLemmas.{over_same_spec}

-- a text that was made anew and then appended
pub appended : (before after slice made fresh shown text : List ℕ) → after ≡ before ++ slice → slice ≡ made → made ≡ fresh ++ shown
    → fresh ≡ [] → shown ≡ text → after ≡ before ++ text
appended before after slice made fresh shown text e1 e2 e3 e4 e5 =
    e1 ∙ ap (λ (xs : List ℕ). before ++ xs) (e2 ∙ e3 ∙ ap (λ (xs : List ℕ). xs ++ shown) e4 ∙ e5)

seven_joined : (s0 s1 s2 s3 s4 s5 s6 s7 a b c d e f g : List ℕ) → s1 ≡ s0 ++ a → s2 ≡ s1 ++ b → s3 ≡ s2 ++ c → s4 ≡ s3 ++ d
    → s5 ≡ s4 ++ e → s6 ≡ s5 ++ f → s7 ≡ s6 ++ g → s7 ≡ s0 ++ (a ++ b ++ c ++ d ++ e ++ f ++ g)
seven_joined s0 s1 s2 s3 s4 s5 s6 s7 a b c d e f g e1 e2 e3 e4 e5 e6 e7 =
    two_pieces s0 s6 s7 _ g
    (two_pieces s0 s5 s6 _ f (two_pieces s0 s4 s5 _ e (two_pieces s0 s3 s4 _ d (two_pieces s0 s2 s3 _ c (two_pieces s0 s1 s2 a b e1 e2)
    e3) e4) e5) e6) e7

pub sizes_written : (s0 s1 s2 s3 s4 s5 s6 s7 : List ℕ) (data_ : Data) → s1 ≡ s0 ++ codes "data: "
    → s2 ≡ s1 ++ decimal (length data_.signature.sorts) → s3 ≡ s2 ++ codes " sorts, "
    → s4 ≡ s3 ++ decimal (length data_.signature.operations) → s5 ≡ s4 ++ codes " operations, "
    → s6 ≡ s5 ++ decimal (length data_.equations) → s7 ≡ s6 ++ codes " equations\n" → s7 ≡ s0 ++ sizes_line data_
sizes_written s0 s1 s2 s3 s4 s5 s6 s7 data_ e1 e2 e3 e4 e5 e6 e7 =
    seven_joined s0 s1 s2 s3 s4 s5 s6 s7 _ _ _ _ _ _ _ e1 e2 e3 e4 e5 e6 e7

pub summary_written : (s0 s1 s2 s3 s4 s5 s6 s7 s8 s9 s10 s11 : List ℕ) (data_ : Flat) (spec : Spec) (cells : ℕ) (tally : Tally)
    → s1 ≡ s0 ++ codes "demo " → s2 ≡ s1 ++ decimal cells → s3 ≡ s2 ++ codes "\n" → s4 ≡ s3 ++ sizes_line (data_of data_)
    → s5 ≡ s4 ++ codes "steps " → s6 ≡ s5 ++ decimal tally.steps → s7 ≡ s6 ++ codes "\nentries " → s8 ≡ s7 ++ decimal tally.entries
    → s9 ≡ s8 ++ codes "\nlast "
    → s10 ≡ s9 ++ text_of_last (signature_of data_.signature) (map spelling spec.gate_names.items) (option_map label_of tally.last)
    → s11 ≡ s10 ++ codes "\n" → s11 ≡ s0 ++ written_summary data_ spec cells tally
summary_written s0 s1 s2 s3 s4 s5 s6 s7 s8 s9 s10 s11 data_ spec cells tally e1 e2 e3 e4 e5 e6 e7 e8 e9 e10 e11 =
    two_pieces s0 s10 s11 _ _ (two_pieces s0 s9 s10 _ _ (two_pieces s0 s8 s9 _ _ (two_pieces s0 s7 s8 _ _
    (seven_joined s0 s1 s2 s3 s4 s5 s6 s7 _ _ _ _ _ _ _ e1 e2 e3 e4 e5 e6 e7) e8) e9) e10) e11

-- what was seen on a walk is what its session has come to
summary_told : {M : Type 0} (suits : M → Spec → Data → (Term → Term) → Type 0) (data_ : Flat) (canon : Term → Term)
    (session : Session M) (tally : Tally) (cells : ℕ) → IsOnWalk suits (data_of data_) canon session tally
    → written_summary data_ session.spec cells tally
    ≡ summary_text (basis_over (data_of data_) canon session.spec) cells (walk_reached session)
summary_told suits data_ canon session tally cells on =
    ap (λ (n : ℕ). codes "demo " ++ decimal cells ++ codes "\n" ++ sizes_line (data_of data_) ++ codes "steps " ++ decimal n
    ++ codes "\nentries " ++ decimal tally.entries ++ codes "\nlast "
    ++ text_of_last (signature_of data_.signature) (map spelling session.spec.gate_names.items) (option_map label_of tally.last)
    ++ codes "\n") on.steps
    ∙ ap (λ (n : ℕ). codes "demo " ++ decimal cells ++ codes "\n" ++ sizes_line (data_of data_) ++ codes "steps "
    ++ decimal (length (walk_reached session).steps) ++ codes "\nentries " ++ decimal n ++ codes "\nlast "
    ++ text_of_last (signature_of data_.signature) (map spelling session.spec.gate_names.items) (option_map label_of tally.last)
    ++ codes "\n") on.entries
    ∙ ap (λ (l : Option Label). codes "demo " ++ decimal cells ++ codes "\n" ++ sizes_line (data_of data_) ++ codes "steps "
    ++ decimal (length (walk_reached session).steps) ++ codes "\nentries " ++ decimal (entries_seen (walk_reached session))
    ++ codes "\nlast "
    ++ text_of_last (signature_of data_.signature) (map spelling session.spec.gate_names.items) l ++ codes "\n") on.label

-- a session that has taken no step is one that opens
opened_so : (course : Course) → course.history.items ≡ [] → progress_of course ≡ opened_progress (progress_of course).situation
opened_so course none =
    ap (λ (pasts : List Past). record { situation = situation_of course.state course.menu; steps = map past_of pasts }) none

pub summary_is : {M : Type 0} (suits : M → Spec → Data → (Term → Term) → Type 0) (known : Data) (data_ : Flat)
    (canon another : Term → Term) (first last : Session M) (tally : Tally) (values : WalkValues) (cells : ℕ)
    → first.course.history.items ≡ [] → AreWalkValues known.signature values
    → GoesThrough (basis_over known canon first.spec) (walk_steps values cells) (walk_reached first) (walk_reached last)
    → last.spec ≡ first.spec → data_of data_ ≡ known → another ≡ canon → IsOnWalk suits known canon last tally
    → IsSummary (basis_over known canon first.spec) (walk_reached first).situation cells (written_summary data_ last.spec cells tally)
summary_is suits known data_ canon another first last tally values cells at_start are leads same_spec same same_canon on = record {
  last = walk_reached last;
  walk = record {
    values = values;
    values_are = are;
    leads = subst (λ (p : Progress). GoesThrough (basis_over known canon first.spec) (walk_steps values cells) p (walk_reached last))
        (opened_so first.course at_start) leads;
  };
  text_is = over_same_spec known (data_of data_) canon another first.spec last.spec
      (λ basis. written_summary data_ last.spec cells tally ≡ summary_text basis cells (walk_reached last)) same same_canon same_spec
      (summary_told suits data_ another last tally cells
      (over_same (data_of data_) known another canon (λ (d : Data) (k : Term → Term). IsOnWalk suits d k last tally) (sym same)
      (sym same_canon) on));
}
