-- The cost of attempts that remember failures from the first one on. An attempt is a search from
-- the first instruction. Its cost is the sum of the costs of its events (`CostsOfSearchEvents`).
use Rattle.std.specs.Prelude.{◌≡◌, ℕ, false, List, [], ◌∷◌, Option, IfSome}
use Rattle.regex_meaning.specs.Text.{Text, rightwards}
use Rattle.regex_meaning.specs.Tree.{Tree}
use Rattle.regex_meaning.specs.CompilationRelation.{Program}
use Rattle.regress_machine.specs.Machine.{State, running, ends, act}
use Rattle.regress_memo.specs.MemoSearch.{Key, Entry, one_thread, thread_entries}
use Rattle.regress_memo.specs.declared.analysis_result.MemoAnalysis.{MemoAnalysis}
use Rattle.regress_memo.specs.CheckedAnalysis.{IsAnalysisOf}
use Rattle.regress_memo.specs.WorkBound.{initial_threads}
use Rattle.regress_memo.specs.Laws.{ListsExactlyKnownKeys}
use Rattle.regress_memo.specs.MemoContents.{has_failure}
use Rattle.regress_memo.specs.MemoContractView.{MemoView}
use Rattle.regress_program.specs.CompilationOfTreesAsFunction.{compiled}
use Rattle.regex_meaning.specs.CodeUnitOffsets.{offset_within}
use Rattle.regress_search.specs.CostsOfSearches.{Failures}
use Rattle.regress_search.specs.CostsOfCalls.{WorkMatchesView}
use Rattle.regress_search.specs.declared.exec.search_state.SearchState.{Ghosts}
use Rattle.regress_bounded.specs.CostsOfSearchEvents.{Costs}

-- The failures known to a memo table.
abbrev pub failures_of : MemoView → Failures
failures_of m ip at code = has_failure m (record { ip = ip; at = at; code = code })

-- The list contains exactly the keys that are known to fail.
abbrev pub IsListOfFailures : Failures → List Key → Type 0
IsListOfFailures failures memory = ListsExactlyKnownKeys (λ k. failures k.ip k.at k.code) memory

-- A search is over if no entry is left, or if the operation of the current thread ends it.
pub data HasFinished (program : Program) (text : Text) : List Entry → Type 0 where
  no_entry : HasFinished program text []
  is_end : (s end : State) (rest : List Entry) → act program text rightwards s ≡ ends end
      → HasFinished program text (one_thread (running s) ∷ rest)

-- The events of an attempt at an offset, for a memo analysis of the tree's program. Their total
-- cost is `cost`, and the failures `before` are known at the start. If the attempt is over, the
-- failures `after` are known; `None` if it is not over.
pub record EventsOfAttempt (tree : Tree) (text : Text) (before : Failures) (at cost : ℕ)
    (after : Option Failures) : Type 0 where
  pub memo_analysis : MemoAnalysis
  pub is_analysis : IsAnalysisOf (compiled tree) memo_analysis
  pub memory : List Key
  pub lists : IsListOfFailures before memory
  pub now : List Key
  pub row : List Entry
  pub costs : Costs (compiled tree) text memo_analysis rightwards memory
      (thread_entries (initial_threads (compiled tree) at)) cost now row
  pub over : IfSome after (λ failures. HasFinished (compiled tree) text row × IsListOfFailures failures now)

-- The attempt, or a first part of it, has this cost (as a proposition).
abbrev pub AttemptCosts : (tree : Tree) (text : Text) (before : Failures) (at cost : ℕ) (after : Option Failures)
    → Type 0
AttemptCosts tree text before at cost after = ∥ EventsOfAttempt tree text before at cost after ∥₁

-- No failure is known.
abbrev pub NoFailuresAreKnown : Failures → Type 0
NoFailuresAreKnown failures = (ip at code : ℕ) → failures ip at code ≡ false

-- What determines the cost of an iterator's first call: it searches this text with the tree's
-- program from `start`, and no failure is known.
pub record BeginsSearchesForTreeInText (tree : Tree) (text : Text) (start : ℕ) (its_tree : Tree) (its_text : Text)
    (its_failures : Failures) (its_position : Option ℕ) : Type 0 where
  pub of_tree : its_tree ≡ tree
  pub of_text : its_text ≡ text
  pub fresh : NoFailuresAreKnown its_failures
  pub position : its_position ≡ offset_within text start

-- `BeginsSearchesForTreeInText` for an iterator, stated by the ghost state of its producer.
abbrev pub IteratorBeginsSearches : {E : Type 0} (e : Ghosts E) (tree : Tree) (text : Text) (start : ℕ)
    → WorkMatchesView E → Type 0
IteratorBeginsSearches e tree text start it =
    BeginsSearchesForTreeInText tree text start (e.tree it.producer) (e.text it.producer) (e.failures it.producer)
    it.position
