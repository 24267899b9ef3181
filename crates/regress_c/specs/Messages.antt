-- The texts of the codes.
use Rattle.std.specs.Prelude.{ℕ, List, ◌==◌, if◌then◌else◌, codes}

-- The text of a code, in ASCII.
abbrev pub message_of_code : (code : ℕ) → List ℕ
message_of_code code =
    if code == 0 then codes "done"
    else if code == 1 then codes "no match"
    else if code == 2 then codes "the handle holds no pattern"
    else if code == 3 then codes "the handle already holds a pattern"
    else if code == 4 then codes "the pattern, the text or the replacement is not valid UTF-8"
    else if code == 5 then codes "the offset splits a character"
    else if code == 6 then codes "the buffer is too short"
    else if code == 7 then codes "out of memory"
    else if code == 8 then codes "the step limit is reached"
    else if code == 9 then codes "the pattern has a syntax error"
    else if code == 10 then codes "too many groups (at most 65535)"
    else if code == 11 then codes "too many loops (at most 65535)"
    else if code == 12 then codes "too many instructions (at most 4294967295)"
    else if code == 13 then codes "unknown flag (flags are i, m, s, u and v)"
    else if code == 14 then codes "the pattern is too long"
    else if code == 15 then codes "the pattern is nested too deeply"
    else if code == 16 then codes "no such group"
    else if code == 17 then codes "the search is not open"
    else if code == 18 then codes "steps are counted in UTF-8 only"
    else if code == 19 then codes "no work bound is known: a lookaround has a loop, or alternatives before its end"
    else if code == 20 then codes "the work limit is reached"
    else if code == 21 then codes "unknown syntax (syntaxes are 0 and 1)"
    else if code == 22 then codes "no work bound is known: the pattern has a backreference"
    else if code == 23 then codes "no work bound is known: counts are too large, or loops are nested too deeply"
    else if code == 24 then codes "no work bound is known: the bound is too large, or lookarounds are nested too deeply"
    else codes "unknown code"
