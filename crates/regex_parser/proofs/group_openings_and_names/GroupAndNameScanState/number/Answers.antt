use Rattle.std.proofs.Common.{◌≡◌, ◌∙◌, sym, ap, string_bytes, false}
use Rattle.std.specs.Prelude.{is_some}
use Rattle.std.specs.BTreeMap.{get_by_text}
use Rattle.regex_parser.proofs.GroupScanLemmas.{number-inserted, entries-positive}
use Rattle.regex_parser.proofs.group_openings_and_names.GroupAndNameScanState.number.Goals as goal

pub returns-clause-numbers : goal.returns-clause-numbers
returns-clause-numbers c =
    let none : is_some (get_by_text c.args.self.now.numbers (string_bytes c.args.name)) ≡ false =
    ap (λ x. is_some (get_by_text c.args.self.now.numbers x)) (sym c.as_str.ensures.value) ∙ sym c.contains_key.ensures ∙ c.if-contains_key.false in
    number-inserted c.args.self.now.numbers c.insert.new.self (string_bytes c.args.name) c.args.self.now.groups none c.in_ok-insert.ensures.updates

pub returns-then-contains_key-clause-named : goal.returns-then-contains_key-clause-named
returns-then-contains_key-clause-named c = entries-positive _ c.args.self.now.numbers.entries (sym c.contains_key.ensures ∙ c.if-contains_key.true)

pub returns-clause-named : goal.returns-clause-named
returns-clause-named c = entries-positive _ c.insert.new.self.entries (ap is_some c.in_ok-insert.ensures.updates.1)
