-- Search for a prefix in bytes.
use Rattle.std.specs.Prelude.{ℕ, List, length, Option}
use Rattle.regex_pattern_front.specs.FirstPassingIndex.{FindsFirstPassingIndex}
use Rattle.regress_program.specs.declared.required_prefix_types.Prefix.{Prefix}
use Rattle.regress_program.specs.PrefixesAndPrefilters.{units_allowed_by_prefix, prefix_allows_units_at}

-- The first index at which each unit of the prefix may occur. `None` if there is none.
abbrev pub FindsPrefix : Prefix → (bytes : List ℕ) → Option ℕ → Type 0
FindsPrefix prefix bytes found = FindsFirstPassingIndex
    (λ at. prefix_allows_units_at (units_allowed_by_prefix prefix) bytes at prefix.len) (length bytes) found
