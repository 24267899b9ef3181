-- Re-exports of the laws of this crate. Declares nothing.
pub use Rattle.regress_memo.specs.Liveness.{LiveDataDecideSearchResult, LiveDataDecideThreadLists, LiveDataDecideFailure}
pub use Rattle.regress_memo.specs.MemoKeys.{MemoKeysDecideFailure, NoStateRecursWhilePending, PositionsDecideFailure, RecordedFailuresAreRight}
pub use Rattle.regress_memo.specs.LivenessExamples.{LivenessExamplesAreRight}
pub use Rattle.regress_memo.specs.MemoSearch.{DistinctKeysCostAtMostList, PendingRecordsStayRight, RightwardSearchesNeverMoveLeft, StepsKeepInvariant, WorkIsBounded}
pub use Rattle.regress_memo.specs.AllMatchesWork.{AllMatchesWorkIsLinear, AllMatchesWorkIsBounded}
pub use Rattle.regress_memo.specs.ThreadPotentials.{OffsetsAndCodesAreKeys, KeysCoverRecordedExits, ThreadsLeftFitInsnPotentials, StepsAreMemoSteps, RightwardInsnsNeverMoveLeft}
pub use Rattle.regress_memo.specs.LookaroundsWithSharedMemo.{KnownResultsDecideLookarounds, LookaroundsLearnKeys, SoundStatesLeaveSoundThreads, FoundEndIsShared}
pub use Rattle.regress_memo.specs.GroupPreservingInsns.{InsnsKeepGroupsToEnd}
pub use Rattle.regress_memo.specs.CharLoopExitThreadLists.{LazyCharLoopThreadsUnfold, GreedyThreadsSplit, CharLoopYieldsExits}
pub use Rattle.regress_memo.specs.LoopDataKeyCodes.{KeyCodesDistinguishLoopData}
pub use Rattle.regress_memo.specs.UnboundedCharLoopMemoKeys.{CharLoopsHaveKeys}
pub use Rattle.regress_memo.specs.SuccessiveMatches.{TotalWorkIsBounded}
pub use Rattle.regress_memo.specs.SkippedLookarounds.{ThreadsStayEquivalent}
pub use Rattle.regress_memo.specs.UnboundedCharLoops.{UnboundedCharLoopsAreMemoSteps}
pub use Rattle.regress_memo.specs.MemoPlanChecksAndGuarantees.{CheckedMemoPlansAreSound, ZeroOrOneStepBelowRecord}
pub use Rattle.regress_memo.specs.AmortizedStepCosts.{StepCostsAreCovered}
pub use Rattle.regress_memo.specs.FusedStepCosts.{FusedCostsAreCovered}
pub use Rattle.regress_memo.specs.SuccessOfThreadLists.{ThreadListsSucceedIfPartDoes, KeyFailsWhenRecordReached}
pub use Rattle.regress_memo.specs.StepSoundness.{StepsAreSound}
pub use Rattle.regress_memo.specs.MemoSearchSoundness.{SearchesStaySound}
pub use Rattle.regress_memo.specs.TotalCostsOfRecordingInsns.{RecordingCostsAreLinear}
pub use Rattle.regress_memo.specs.DelayedMemoizationWorkBudget.{WorkBudgetsSuffice}
pub use Rattle.regress_memo.specs.PreservedSlotCounts.{StatesKeepSlots}
pub use Rattle.regress_memo.specs.CappedCharLoops.{BoundedLoopCostsAreCovered, CharLoopScansAreMemoSteps, LookaroundCostsAreCovered}
