-- Faults of what was read, and the stop.
use Rattle.std.proofs.Common.{◌≡◌, ◌↔◌, ℕ, Bool, true, false, not, IsTrue, IsFalse, inl, inr, refl, sym, subst}
use Rattle.induct_parts.specs.HandedOn.{no_tree}
use Rattle.induct_parts.specs.FaultView.{HoldsAtLine, HoldsOfLineFault}
use Rattle.induct_parts.specs.declared.at_line.AtLine.{AtLine}
use Rattle.induct_parts.specs.declared.line_fault.LineFault.{LineFault}
use Rattle.induct_parts.specs.declared.line_fault.LineFault.TheVariants.{NoTree}
use Rattle.induct_check.specs.TextFaults.{Stop, ComesBeforeStop}

late : (early : Bool) → IsTrue (not early) → IsFalse early
late true h = absurd (cc h)
late false h = refl

not_early : (early : Bool) → IsFalse early → IsTrue (not early)
not_early true h = absurd (cc h)
not_early false h = refl

tree_lacks : (stop : Stop) (line f : ℕ) → ComesBeforeStop stop line (no_tree f) → IsFalse stop.early
tree_lacks stop line f (inl h) = absurd (h.0 f refl)
tree_lacks stop line f (inr h) = h.2

pub tree_before : (stop : Stop) (line f : ℕ) → IsTrue (not stop.early) ↔ ComesBeforeStop stop line (no_tree f)
tree_before stop line f =
    ((λ h. inr (f, refl, late stop.early h)), (λ h. not_early stop.early (tree_lacks stop line f h)))

pub lacks_before : (stop : Stop) (at : AtLine) (f : ℕ) → at.fault ≡ NoTree f
    → IsTrue (not stop.early) ↔ HoldsAtLine (ComesBeforeStop stop) at
lacks_before stop at f is =
    subst (λ (fault : LineFault). IsTrue (not stop.early) ↔ HoldsOfLineFault (ComesBeforeStop stop at.line) fault) (sym is)
    (tree_before stop at.line f)
