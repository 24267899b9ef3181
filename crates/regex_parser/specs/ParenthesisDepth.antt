-- The nesting depth of a pattern: the greatest number of parentheses that are open at once.
use Rattle.std.specs.Prelude.{ℕ, ◌+◌, ◌-◌, true, false, List, if◌then◌else◌, ◌==◌, max}
use Rattle.std.specs.List.{fold}
use Rattle.regex_parser.specs.declared.greatest_parenthesis_depth_of_pattern.ParenthesisDepthScan.{ParenthesisDepthScan}

-- The state of the scan before anything is read.
abbrev pub scan_start : ParenthesisDepthScan
scan_start = record { depth = 0; deepest = 0; in_class = false; escaped = false }

-- The state after an opening parenthesis.
abbrev pub depth_scan_after_opening_parenthesis : ParenthesisDepthScan → ParenthesisDepthScan
depth_scan_after_opening_parenthesis r = record r { depth = r.depth + 1; deepest = max r.deepest (r.depth + 1) }

-- The state after a code point that is not escaped. Parentheses in classes do not count. `[` is 91,
-- `(` is 40, and `)` is 41.
abbrev pub depth_scan_after_unescaped : ParenthesisDepthScan → (c : ℕ) → ParenthesisDepthScan
depth_scan_after_unescaped r c = if c == 91 then record r { in_class = true }
    else if c == 40 then depth_scan_after_opening_parenthesis r
    else if c == 41 then record r { depth = r.depth - 1 }
    else r

-- The state after one more code point. A backslash (92) escapes the next one, and a class ends at
-- the first `]` (93).
abbrev pub depth_scan_after_code_point : ParenthesisDepthScan → (c : ℕ) → ParenthesisDepthScan
depth_scan_after_code_point r c = if r.escaped then record r { escaped = false }
    else if c == 92 then record r { escaped = true }
    else if c == 93 then record r { in_class = false }
    else if r.in_class then r
    else depth_scan_after_unescaped r c

-- The greatest number of parentheses that are open at once.
abbrev pub greatest_parenthesis_depth_in : (pattern : List ℕ) → ℕ
greatest_parenthesis_depth_in pattern = (fold depth_scan_after_code_point scan_start pattern).deepest
