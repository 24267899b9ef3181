use Rattle.std.proofs.Common.{true, false}
use Rattle.use_regexp.proofs.FoundStands.{first-ok}
use Rattle.use_regexp.proofs.PairLemmas.{may-begin}
use Rattle.use_regexp.proofs.pattern.Pattern.first_match.Goals as goal

pub find_from_utf16-requires : goal.find_from_utf16-requires
find_from_utf16-requires c = may-begin c.args.self.now.flags.unicode c.args.text.now c.args.at c.character_start-start.result (λ k _. (c.type_inv.text k).fits) c.character_start-start.ensures c.if-self.true

pub returns-in_ok-find_from_utf16-clause-found : goal.returns-in_ok-find_from_utf16-clause-found
returns-in_ok-find_from_utf16-clause-found c =
    first-ok c.args.self.now c.args.text.now c.args.at c.character_start-start.result c.character_start-start.ensures c.first.result true _ c.if-self.true
    c.in_ok-find_from_utf16.ensures.answers.answers c.first.ensures.first

pub returns-in_ok-find_from_ucs2-clause-found : goal.returns-in_ok-find_from_ucs2-clause-found
returns-in_ok-find_from_ucs2-clause-found c =
    first-ok c.args.self.now c.args.text.now c.args.at c.character_start-start.result c.character_start-start.ensures c.first-else-self.result false _ c.if-self.false
    c.in_ok-find_from_ucs2.ensures.answers.answers c.first-else-self.ensures.first
