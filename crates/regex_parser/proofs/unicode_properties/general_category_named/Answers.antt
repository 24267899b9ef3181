use Rattle.std.proofs.Common.{◌∙◌}
use Rattle.regex_parser.proofs.ClassReaderLemmas.{ok-map}
use Rattle.regex_parser.proofs.PropertyTableLemmas.{category-listed}
use Rattle.regex_parser.proofs.unicode_properties.general_category_named.Goals as goal

pub returns : goal.returns
returns c = ok-map c.listed_value.result c.listed_value.ensures (λ p h. h ∙ category-listed c.args.name.now)
