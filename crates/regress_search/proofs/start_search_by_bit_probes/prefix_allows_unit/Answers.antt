use Rattle.std.proofs.Common.{sym, ap, ◌∙◌}
use Rattle.regress_machine.specs.RequiredPrefixes.{unit_is_allowed}
use Rattle.regress_program.specs.PrefixesAndPrefilters.{units_allowed_by_prefix}
use Rattle.regress_search.proofs.start_search_by_bit_probes.prefix_allows_unit.Goals as goal

pub returns-in-Some : goal.returns-in-Some
returns-in-Some g c =
    c.is_key_allowed.ensures ∙ sym (ap (unit_is_allowed (units_allowed_by_prefix c.args.prefix.now) c.args.ahead) c.in-Some.ensures.is)

pub returns : goal.returns
returns g c =
    c.is_key_allowed-2.ensures ∙ sym (ap (unit_is_allowed (units_allowed_by_prefix c.args.prefix.now) c.args.ahead) c.unit_key_at_offset.ensures.is)
