use Rattle.std.proofs.Common.{true, false}
use Rattle.use_regexp.proofs.FoundStands.{here-ok}
use Rattle.use_regexp.proofs.PairLemmas.{may-begin}
use Rattle.use_regexp.proofs.pattern.Pattern.match_beginning_at_index.Goals as goal

pub match_at_utf16-requires : goal.match_at_utf16-requires
match_at_utf16-requires c = may-begin c.args.self.now.flags.unicode c.args.text.now c.args.at c.character_start-start.result (λ k _. (c.type_inv.text k).fits) c.character_start-start.ensures c.if-self.true

pub returns-then-self-clause-found : goal.returns-then-self-clause-found
returns-then-self-clause-found c =
    here-ok c.args.self.now c.args.text.now c.args.at c.character_start-start.result c.character_start-start.ensures c.match_at_utf16.result true c.if-self.true
    c.match_at_utf16.ensures.found

pub returns-else-self-clause-found : goal.returns-else-self-clause-found
returns-else-self-clause-found c =
    here-ok c.args.self.now c.args.text.now c.args.at c.character_start-start.result c.character_start-start.ensures c.match_at_ucs2.result false c.if-self.false
    c.match_at_ucs2.ensures.found
