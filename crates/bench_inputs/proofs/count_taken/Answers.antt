use Rattle.bench_inputs.proofs.Taken.{taken}
use Rattle.bench_inputs.proofs.count_taken.Goals as goal

pub loop-pos-smaller : goal.loop-pos-smaller
loop-pos-smaller g c =
    let step = taken (g.Input.InputIndexer.text c.args.input.now) (g.met.Input.InputIndexer.is_text c.args.input.now) _ _ _ _ c.matches.ensures c.loop-pos-test.true in
    step.nearer

pub loop-pos-preserved : goal.loop-pos-preserved
loop-pos-preserved g c =
    let step = taken (g.Input.InputIndexer.text c.args.input.now) (g.met.Input.InputIndexer.is_text c.args.input.now) _ _ _ _ c.matches.ensures c.loop-pos-test.true in
    step.boundary
