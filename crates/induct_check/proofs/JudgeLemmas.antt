-- What a text is said to be, by what it comes to and by what was read.
use Rattle.std.proofs.Common.{◌≡◌, ℕ, List, Option, None, Some, inl, inr, refl, sym, subst}
use Rattle.lotos_base.specs.Signature.{Signature}
use Rattle.induct_parts.specs.HandedOn.{Certificate, IsCertified, IsInductionFault, InductionFault, bad_line, no_variable, no_cover}
use Rattle.induct_parts.specs.HandedOn.{no_tree, not_reducible, bad_use, not_same, FirstFaultsAreOne, RightOnesHaveNoFault, Theory}
use Rattle.induct_parts.specs.FaultView.{HoldsAtLine, HoldsOfLineFault}
use Rattle.induct_parts.specs.StatementView.{statement_of}
use Rattle.induct_parts.specs.declared.at_line.AtLine.{AtLine}
use Rattle.induct_parts.specs.declared.line_fault.LineFault.{LineFault}
use Rattle.induct_parts.specs.declared.line_fault.LineFault.TheVariants.{BadLine, NoVariable, NoCover, NoTree, NotReducible, BadUse, NotSame, NoMemory}
use Rattle.induct_parts.proofs.LineSteps.{fault_more}
use Rattle.induct_check.specs.CheckView.{IsFirstOf}
use Rattle.induct_check.specs.TextFaults.{ReadText, Stop, TextComesTo, IsReadAsInduction, ComesBeforeStop, IsTextFault, in_certificate, before_stop, at_stop}

-- what a text comes to, by whether it stops
pub comes_whole : (signature : Signature) (text : List ℕ) (read : ReadText) → read.stop ≡ None → TextComesTo signature text read
    → IsReadAsInduction signature text read.certificate
comes_whole signature text read whole comes =
    subst (λ (stop : Option Stop). TextComesTo signature text (record { certificate = read.certificate; stop = stop })) whole comes

comes_stopped : (signature : Signature) (text : List ℕ) (read : ReadText) (stop : Stop) → read.stop ≡ Some stop
    → TextComesTo signature text read
    → TextComesTo signature text (record { certificate = read.certificate; stop = Some stop })
comes_stopped signature text read stop is comes =
    subst (λ (s : Option Stop). TextComesTo signature text (record { certificate = read.certificate; stop = s })) is comes

over : (signature other : Signature) (text : List ℕ) (read : ReadText) → signature ≡ other → TextComesTo signature text read
    → TextComesTo other text read
over signature other text read same comes = subst (λ (s : Signature). TextComesTo s text read) same comes

-- a right certificate, and a stop
pub stops_right : RightOnesHaveNoFault → (theory : Theory) (signature : Signature) (text : List ℕ) (read : ReadText) (stop : Stop)
    (told : AtLine) → signature ≡ theory.data_.signature → read.stop ≡ Some stop → told.line ≡ stop.line → told.fault ≡ BadLine
    → IsCertified theory read.certificate → TextComesTo signature text read → HoldsAtLine (IsTextFault theory text) told
stops_right laws theory signature text read stop told same is line fault right comes =
    subst (λ (f : LineFault). HoldsOfLineFault (IsTextFault theory text told.line) f) (sym fault)
    (subst (λ (n : ℕ). IsTextFault theory text n bad_line) (sym line)
    (at_stop (comes_stopped theory.data_.signature text read stop is (over signature theory.data_.signature text read same comes))
    (λ n f wrong before. laws theory read.certificate n f right wrong)))

-- the fault of the whole
whole_fault : (theory : Theory) (signature : Signature) (text : List ℕ) (read : ReadText) (at : AtLine) → signature ≡ theory.data_.signature
    → read.stop ≡ None → HoldsAtLine (IsInductionFault theory read.certificate) at → TextComesTo signature text read
    → HoldsAtLine (IsTextFault theory text) at
whole_fault theory signature text read at same whole wrong comes =
    fault_more (IsInductionFault theory read.certificate at.line) (IsTextFault theory text at.line)
    (λ f w. in_certificate (comes_whole theory.data_.signature text read whole
    (over signature theory.data_.signature text read same comes)) w)
    at.fault wrong

-- what holds of a fault, twice
both_hold : (P Q R : InductionFault → Type 0) → ((f : InductionFault) → P f → Q f → R f) → (fault : LineFault) → HoldsOfLineFault P fault
    → HoldsOfLineFault Q fault → HoldsOfLineFault R fault
both_hold P Q R both BadLine p q = both bad_line p q
both_hold P Q R both NoVariable p q = both no_variable p q
both_hold P Q R both NoCover p q = both no_cover p q
both_hold P Q R both (NoTree f) p q = both (no_tree f) p q
both_hold P Q R both NotReducible p q = both not_reducible p q
both_hold P Q R both BadUse p q = both bad_use p q
both_hold P Q R both (NotSame statement) p q = both (not_same (statement_of statement)) p q
both_hold P Q R both NoMemory p q = tt

-- where want of memory is not it, there is a fault
has_fault : (P Q : InductionFault → Type 0) → (fault : LineFault) → HoldsOfLineFault P fault → ¬ HoldsOfLineFault Q fault
    → (f : InductionFault) × P f × (¬ Q f)
has_fault P Q BadLine p q = (bad_line, p, q)
has_fault P Q NoVariable p q = (no_variable, p, q)
has_fault P Q NoCover p q = (no_cover, p, q)
has_fault P Q (NoTree f) p q = (no_tree f, p, q)
has_fault P Q NotReducible p q = (not_reducible, p, q)
has_fault P Q BadUse p q = (bad_use, p, q)
has_fault P Q (NotSame statement) p q = (not_same (statement_of statement), p, q)
has_fault P Q NoMemory p q = absurd (q tt)

fault_behind : FirstFaultsAreOne → (theory : Theory) (certificate : Certificate) (stop : Stop) (at : AtLine)
    → HoldsAtLine (IsInductionFault theory certificate) at → ¬ HoldsAtLine (ComesBeforeStop stop) at
    → (line : ℕ) (fault : InductionFault) → IsInductionFault theory certificate line fault → ¬ ComesBeforeStop stop line fault
fault_behind laws theory certificate stop at wrong late line fault there before =
    let here = has_fault (IsInductionFault theory certificate at.line) (ComesBeforeStop stop at.line) at.fault wrong late in
    let one : (line ≡ at.line) × (fault ≡ here.0) = laws theory certificate line at.line fault here.0 there here.1 in
    here.2 (subst (λ (n : ℕ). ComesBeforeStop stop n here.0) one.0
    (subst (λ (f : InductionFault). ComesBeforeStop stop line f) one.1 before))

-- the first of a fault and a stop
first_by : FirstFaultsAreOne → (theory : Theory) (signature : Signature) (text : List ℕ) (read : ReadText) (at told : AtLine)
    (stop : Option Stop) → read.stop ≡ stop → signature ≡ theory.data_.signature → HoldsAtLine (IsInductionFault theory read.certificate) at
    → IsFirstOf stop at told → TextComesTo signature text read → HoldsAtLine (IsTextFault theory text) told
first_by laws theory signature text read at told None is same wrong first comes =
    subst (λ (a : AtLine). HoldsAtLine (IsTextFault theory text) a) (sym first)
    (whole_fault theory signature text read at same is wrong comes)
first_by laws theory signature text read at told (Some stop) is same wrong (inl first) comes =
    subst (λ (a : AtLine). HoldsAtLine (IsTextFault theory text) a) (sym first.1)
    (both_hold (IsInductionFault theory read.certificate at.line) (ComesBeforeStop stop at.line) (IsTextFault theory text at.line)
    (λ f w b. before_stop (comes_stopped theory.data_.signature text read stop is
    (over signature theory.data_.signature text read same comes)) w b)
    at.fault wrong first.0)
first_by laws theory signature text read at told (Some stop) is same wrong (inr first) comes =
    subst (λ (f : LineFault). HoldsOfLineFault (IsTextFault theory text told.line) f) (sym first.2)
    (subst (λ (n : ℕ). IsTextFault theory text n bad_line) (sym first.1)
    (at_stop (comes_stopped theory.data_.signature text read stop is (over signature theory.data_.signature text read same comes))
    (fault_behind laws theory read.certificate stop at wrong first.0)))

pub first_told : FirstFaultsAreOne → (theory : Theory) (signature : Signature) (text : List ℕ) (read : ReadText) (at told : AtLine)
    → signature ≡ theory.data_.signature → HoldsAtLine (IsInductionFault theory read.certificate) at
    → IsFirstOf read.stop at told → TextComesTo signature text read → HoldsAtLine (IsTextFault theory text) told
first_told laws theory signature text read at told same wrong first comes =
    first_by laws theory signature text read at told read.stop refl same wrong first comes
