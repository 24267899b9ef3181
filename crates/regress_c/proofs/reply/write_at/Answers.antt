use Rattle.std.proofs.Common.{◌-◌, length, refl}
use Rattle.regress_search.specs.MatchesAsSpecAnswers.{answer_of}
use Rattle.regress_c.specs.Replies.{spans_of}
use Rattle.regress_c.proofs.ReplyLemmas.{written_part}
use Rattle.regress_c.proofs.reply.write_at.Goals as goal

pub returns : goal.returns
returns c =
    let spans = c.args.spans.now in
    rw c.requires.all (written_part (spans_of (answer_of c.args.found.now)) spans c.write.new.spans c.args.at (length spans - c.args.at)
    (length (spans_of (answer_of c.args.found.now))) refl c.write.ensures)
