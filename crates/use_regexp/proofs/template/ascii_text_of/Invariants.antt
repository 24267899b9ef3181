use Rattle.std.proofs.Common.{◌≡◌, string_bytes, take, true}
use Rattle.std.specs.List.{list_all}
use Rattle.use_regexp.specs.Template.{is_ascii}
use Rattle.use_regexp.proofs.template.ascii_text_of.Given as goal

abbrev pub invariant-loop-unit : goal.invariant-loop-unit
invariant-loop-unit l = record {
  made : string_bytes l.text ≡ take l.unit-index l.units;
  ascii : list_all is_ascii (take l.unit-index l.units) ≡ true;
}
