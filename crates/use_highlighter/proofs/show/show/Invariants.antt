use Rattle.std.proofs.Common.{◌≡◌, flat_map, string_bytes, take}
use Rattle.use_highlighter.specs.Shown.{shown}
use Rattle.use_highlighter.specs.Tokens.{names_of}
use Rattle.use_highlighter.proofs.show.show.Given as goal

abbrev pub invariant-loop-piece : goal.invariant-loop-piece
invariant-loop-piece l = string_bytes l.made ≡ flat_map (shown l.style (names_of l.tokens) l.text) (take l.piece-index l.pieces)
