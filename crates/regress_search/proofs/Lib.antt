pub mod RemainingAnswerLemmas
pub mod SearchableProgramLemmas
pub mod FirstMatchLemmas
pub mod StartPredicateLemmas
pub mod AttemptSearchLemmas
pub mod NamedGroupLookup
pub mod GroupIteratorLemmas
mod LastMatchLemmas
pub mod SkippedStartLemmas
pub mod StepBudgetLemmas
pub mod SearchLoopLemmas
pub mod MatchAtOffsetLemmas
pub mod MatchesWithinWorkLemmas
pub mod SearchCostLemmas
mod CallCostLemmas
pub mod TextReadLemmas
pub mod CharLoopReach
pub mod MatchedInsnOffsetLemmas
pub mod LiteralBytesInCode
pub mod CharScanProgress
pub mod AllowedUnitTables
pub mod ArmTableLemmas
pub mod VerdictLemmas
pub mod StopByteScanLemmas
pub mod DeadLazyExits
mod LowUnitScans
pub mod OtherKeyExits
pub mod LookbehindStartLemmas
pub mod RemainingLazyExits
pub mod LazyLoopClassLemmas
pub mod GroupIndependentEnds
pub mod LeadingLoopOutcomes
pub mod LeadingLoopOperations
pub mod OmittedDeadExits
pub mod SingleUnitScanLemmas
pub mod ExitRangeLemmas
pub mod NextCharByUnit
pub mod FollowSetLemmas
pub mod OffsetRangeLemmas
pub mod OffsetAfterChar
pub mod CharLoopExitLemmas
pub mod StartSearchLemmas
pub mod PrefixUnitLemmas
pub mod AsciiUnitLemmas
pub mod ProbeLemmas
pub mod FurthestExitLemmas
pub mod SharedBracketTests
pub mod MustIterateUnitLemmas
pub mod MarkedOffsetLemmas
pub mod UnitRunLemmas
mod WordLemmas
mod RepeatedChars
pub mod WideUnitLemmas
pub mod LeapLemmas
