use Rattle.std.proofs.Common.{sym, ◌∙◌}
use Rattle.regress_program.specs.Leaps.{leap_to_goal}
use Rattle.regress_program.specs.LeapCertificatesOfPlans.{is_op_on_way}
use Rattle.regress_program.specs.TableKeysOfUnits.{is_16_bit_width}
use Rattle.regress_program.proofs.LeapOpsLemmas.{certified}
use Rattle.regress_program.proofs.LeapCertificatesLemmas.{certified-sound}
use Rattle.regress_program.proofs.leap.LeapCheck.is_leap.Goals as goal

pub returns : goal.returns
returns c = λ yes program ops.
    let wide = is_16_bit_width c.args.self.units in
    let plan = c.args.self.plan.now in
    let leap = c.args.self.leap.now in
    let way = is_op_on_way c.args.self.on_way.now in
    let alike = c.treats_high_keys_alike.ensures c.if-not-treats_high_keys_alike.false in
    record {
      alike = alike;
      ascii = c.has_few_ascii_goals.ensures c.if-not-has_few_ascii_goals.false;
      sound =
          certified-sound wide program (leap_to_goal leap) way
          (certified wide program plan leap way ops alike (sym c.has.ensures ∙ c.if-not-has.false) (c.every_op_on_way_reaches_goal.ensures yes));
    }
