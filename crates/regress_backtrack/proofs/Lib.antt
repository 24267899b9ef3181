pub mod SearchesOfJoinedThreads
pub mod GroupChangeLists
pub mod GroupIndependentSearches
pub mod LoopBodySteps
pub mod LookaroundsInLoopBodies
pub mod SurplusIterationLemmas
pub mod LoopBodyOperations
pub mod PlannedTreeBrackets
pub mod CandidateStartLemmas
pub mod UndoLogLemmas
pub mod LogicalSlotLemmas
mod LogCompactionLemmas
mod SlotChangeLemmas
pub mod LeftThreadLemmas
pub mod LookaroundContinuationLemmas
pub mod StateTransitionLemmas
pub mod GroupAndBranchTransitions
pub mod LoopTurnLemmas
pub mod BackreferenceTurns
pub mod LoopHeadLemmas
pub mod CountedLoopData
pub mod RequiredIterationLemmas
pub mod GroupAndLoopOperations
pub mod StepBudgetLemmas
pub mod CharLoopTurns
pub mod CharLoopChoicePointLemmas
pub mod LazyLoopTurns
pub mod AlternationTurns
pub mod OpExecutionLemmas
pub mod PaidScanLemmas
pub mod OpWorkLemmas
pub mod PaidResumptionLemmas
pub mod SearchCostLemmas
pub mod PaidSearchLemmas
pub mod PaidAttemptLemmas
pub mod WorkBoundLemmas
pub mod LookaheadVerdictTurns
pub mod PossessiveLoopTurns
mod BackreferenceMismatch
mod LoopBeforeGoalTurns
pub mod LastChoicePointLemmas
pub mod PendingThreadLemmas
pub mod RemainingSearchLemmas
pub mod NextThreadLemmas
pub mod ThreadsOfChoicePoints
pub mod LazyLoopResumption
pub mod PendingArmResumption
pub mod SearchProgressLemmas
pub mod LookaroundTurns
pub mod AttemptResultLemmas
pub mod LimitedStartLemmas
pub mod PlannedTreeLemmas
pub mod TransitionsAmongRecords
pub mod RecordValidityLemmas
pub mod FailureMemoLemmas
pub mod MemoizedExecutionLemmas
pub mod PushedRecordLemmas
mod FailingLazyExitLemmas
pub mod MemoizedBacktracking
pub mod TurnsWithRecords
pub mod MemoizedCharLoopLemmas
pub mod KnownEndLemmas
pub mod MemoizedLazyResumption
pub mod InterpreterLemmas
mod SuspendedSearchLemmas
pub mod ThreadKeyLemmas
pub mod CharLoopKeyLemmas
mod StatePreservationLemmas
pub mod MemoTableSchemeLemmas
pub mod LeapMemoryLemmas
