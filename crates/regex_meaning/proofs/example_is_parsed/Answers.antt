use Rattle.regex_meaning.proofs.ExamplePatternTree.{row}
use Rattle.regex_meaning.proofs.example_is_parsed.Goals as goal

-- src/lib.rt:7:1
pub returns : goal.returns
returns c = row
