-- Lookarounds with simple contents: control stays inside the contents until their goal, and they
-- have no loops other than char loops.
use Rattle.std.specs.Prelude.{◌<◌, ℕ, ◌+◌, slice_get}
use Rattle.regex_meaning.specs.CompilationRelation.{Program}
use Rattle.regress_memo.specs.declared.successors.Successors.{Successors}
use Rattle.regress_memo.specs.declared.successors.Successors.TheVariants.{Ends, One, Two, Enter, Again, Run, LookaroundSuccessor, Same}
use Rattle.regress_memo.specs.Successors.{successors_of_insn_if_any}

module _ (from past : ℕ) where
  -- The instruction is between the lookaround at `from` and the instruction `past` after it.
  abbrev pub IsInContents : (ip : ℕ) → Type 0
  IsInContents ip = (from < ip) × (ip < past)

  -- The successors of an instruction are in the contents too.
  abbrev pub StaysInContents : Successors → (ip : ℕ) → Type 0
  StaysInContents Ends ip = Unit {0}
  StaysInContents (One n) ip = IsInContents n.to
  StaysInContents (Two other) ip = IsInContents (ip + 1) × IsInContents other
  StaysInContents (Enter f) ip = ⊥
  StaysInContents (Again begin) ip = ⊥
  StaysInContents (Run b) ip = IsInContents (ip + 2)
  StaysInContents (LookaroundSuccessor l) ip = IsInContents l.past
  StaysInContents Same ip = ⊥

  -- The contents have an instruction, and control stays inside them.
  pub record HasClosedContents (program : Program) : Type 0 where
    pub some : from + 1 < past
    pub stays : (ip : ℕ) → IsInContents ip
        → StaysInContents (successors_of_insn_if_any ip (slice_get program.insns ip)) ip

-- A lookaround has closed contents. Other instructions satisfy this.
abbrev pub HasClosedContentsIfLookaround : Program → Successors → (ip : ℕ) → Type 0
HasClosedContentsIfLookaround program (LookaroundSuccessor l) ip = HasClosedContents ip l.past program
HasClosedContentsIfLookaround program _ ip = Unit {0}
