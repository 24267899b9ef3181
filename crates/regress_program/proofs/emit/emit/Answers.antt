use Rattle.regex_pattern_front.specs.AstToSpecTree.{tree_of}
use Rattle.regress_program.proofs.CompiledTreeLemmas.{compiled-is_code}
use Rattle.regress_program.proofs.emit.emit.Goals as goal

pub byte_program_of-requires-clause-fits : goal.byte_program_of-requires-clause-fits
byte_program_of-requires-clause-fits c = c.in_ok-program.ensures.fits.insns

pub returns-clause-code : goal.returns-clause-code
returns-clause-code c = compiled-is_code (tree_of c.args.re.now) c.in_ok-program.ensures.fits.well_formed
