use Rattle.std.proofs.Common.{◌≡◌, take, string_bytes, encode_utf8_all}
use Rattle.regex_parser.proofs.nfkc_casefold.folded.Given as goal

abbrev pub invariant-loop-character : goal.invariant-loop-character
invariant-loop-character l = string_bytes l.folded ≡ encode_utf8_all (take l.character-index l.folding)
