use Rattle.std.proofs.Common.{inl, inr, sym, ◌∙◌}
use Rattle.regex_parser.proofs.PropertyNameLemmas.{listed-next}
use Rattle.regex_parser.proofs.unicode_properties.is_listed.Goals.{then-words-end-eq32+else-is_word, else-words-end-eq32}
use Rattle.regex_parser.proofs.unicode_properties.is_listed.Goals as goal

pub loop-end-preserved : goal.loop-end-preserved
loop-end-preserved c =
    let i = c.loop-end.invariant in
    listed-next c.args.words.now c.args.name.now c.loop-end.start c.loop-end.end c.if-words-end-eq32.start i.0 c.loop-end-test.true i.2
    (elim c.if-words-end-eq32.branch [
      | then-words-end-eq32+else-is_word w ↦ inl (w.if-words-end-eq32.true, sym w.is_word.ensures ∙ w.if-is_word.false, w.start-is)
      | else-words-end-eq32 w ↦ inr (w.if-words-end-eq32.false, w.start-is)
    ])
