use Rattle.std.proofs.Common.{ℕ, ◌+◌, ◌∙◌, ap, count_by, length, sym}
use Rattle.std.proofs.lemmas.List.Splits.{length-slice_split}
use Rattle.memchr.specs.Find.{is_byte}
use Rattle.memchr.proofs.lemmas.CallerLemmas.{length-places}
use Rattle.use_grep.proofs.select.count_lines.Goals as goal

pub returns : goal.returns
returns c =
    let breaks = length-places (is_byte 10) c.as_bytes.result.now ∙ ap (count_by (is_byte 10)) c.as_bytes.ensures.value in
    ap (λ (n : ℕ). n + 1) (c.count.ensures ∙ ap length c.memchr_iter.ensures.value ∙ breaks)
    ∙ sym (length-slice_split (is_byte 10) c.args.text.now)
