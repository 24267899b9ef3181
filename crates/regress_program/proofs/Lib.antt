pub mod NodeListLemmas
pub mod AppendedCodeLemmas
pub mod CompiledTreeLemmas
pub mod ByteSetLemmas
pub mod JoinedStartsLemmas
pub mod FirstBytesOfSetsLemmas
pub mod ByteAndStringCodeLemmas
pub mod AsciiIntervalMembers
pub mod GroupIdCheckLemmas
pub mod StoringGroupNamesLemmas
pub mod FieldlessValueLemmas
pub mod Utf8CharCountLemmas
pub mod InnerNodeCountLemmas
pub mod StartPredicatesLemmas
pub mod TreeWalkLemmas
pub mod GoalNodeCheckLemmas
pub mod NodeInsnCountLemmas
pub mod NodeKindLemmas
pub mod CharLoopNodeLemmas
pub mod TreeToRunLemmas
pub mod PendingEmissionLemmas
pub mod TableKeysOfUnitsLemmas
pub mod RangeAcceptanceLemmas
mod ListedUnitsLemmas
pub mod AppendedEntryLemmas
pub mod AddedOpsLemmas
pub mod ClosedFirstSetsLemmas
pub mod FollowSetAndStartLemmas
pub mod AlternationDispatchLemmas
pub mod FirstSetLemmas
pub mod RequiredPrefixLemmas
pub mod LeapOpsLemmas
pub mod LookbehindFilterLemmas
pub mod LookaheadAndExitLemmas
pub mod MustIterateChecksLemmas
mod OpTableEntryLemmas
mod ClassReadLengthsLemmas
mod IntervalReadLengthLemmas
mod LeapPassedUnits
pub mod LeapCertificatesLemmas
