-- The public flags as flags of the specification.
use Rattle.regex_meaning.specs.Tree as tree
use Rattle.regress_match.specs.declared.api.flags.Flags.{Flags}

-- The flags of the specification with the same settings.
abbrev pub spec_flags_of : Flags → tree.Flags
spec_flags_of f = record {
  icase = f.icase;
  multiline = f.multiline;
  dot_all = f.dot_all;
  no_opt = f.no_opt;
  unicode = f.unicode;
  unicode_sets = f.unicode_sets;
}
