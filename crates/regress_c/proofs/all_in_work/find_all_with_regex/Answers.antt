use Rattle.regress_c.proofs.AllInWorkLemmas.{is-refused}
use Rattle.regress_c.proofs.all_in_work.find_all_with_regex.Goals as goal

pub returns-in-Err : goal.returns-in-Err
returns-in-Err c =
    is-refused c.args.re.now c.args.bytes.now c.args.start c.args.work.now c.write_all_matches_if_accepted.new.work c.args.spans.now c.write_all_matches_if_accepted.new.spans c.reply.result c.in-Err.refusal
    c.in-Err.ensures c.reply.ensures
