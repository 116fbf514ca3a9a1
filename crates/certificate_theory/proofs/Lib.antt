pub mod MoveLaws
pub mod EqualValues
pub mod AlikeBeside
pub mod AlikeMoves
pub mod ClosedEntries
pub mod AlikeChains
pub mod MatchedMoves
pub mod ReadStates
pub mod AcceptedPairs
pub mod ClosedLabels
pub mod OneOutcome
pub mod IdentityTest
pub mod SameSignatures
pub mod InterchangeableData
pub mod SameDoings
pub mod Each
pub mod ArgumentLemmas
pub mod LineLemmas
pub mod CoverLemmas
pub mod CaseLemmas
mod HoldLemmas
mod SplitSound
pub mod UseSound
pub mod LemmasHold
pub mod OnceLemmas
mod FaultLemmas
pub mod RequirementLemmas
pub mod CertificateTests
pub mod TestedLines
pub mod TestedCertificates
mod AdditionForms
mod CaseProofs
mod SmallSortProofs
