use Rattle.std.proofs.Common.{◌≡◌, ◌∙◌, subst, sym}
use Rattle.std.specs.Prelude.{◌||◌, true}
use Rattle.std.proofs.lemmas.Bool.{or_left}
use Rattle.use_grep.specs.Selecting.{IsLocal}
use Rattle.use_grep.proofs.Searched.{alone-searched, framed-searched, alone-is-one, none-in_lines, by-lines}
use Rattle.use_grep.proofs.pattern.compile.Goals as goal
use Rattle.use_grep.proofs.pattern.compile.Goals.{else-not-options-via-then-not-options+else-not-options-2, else-not-options-via-else-not-options}

pub invariant_of-result : goal.invariant_of-result
invariant_of-result c =
    let pattern = c.args.options.now.pattern.now in
    record {
      none_in_lines = λ is. none-in_lines _ pattern c.in_ok-alone.alone c.in_ok-alone.ensures.compiled
          (subst (λ f. IsLocal f pattern) (c.flags-then-not-options-2.ensures ∙ sym c.flags.ensures) (c.in_ok-is_local.ensures is));
    }

pub returns-then-not-options-2-clause-searched : goal.returns-then-not-options-2-clause-searched
returns-then-not-options-2-clause-searched c =
    let o = c.args.options.now in
    alone-searched _ _ c.flags.ensures o.words o.whole_lines o.pattern.now c.in_ok-alone.alone
    c.if-not-options.true c.if-not-options-2.true c.in_ok-alone.ensures.compiled

pub returns-clause-searched : goal.returns-clause-searched
returns-clause-searched c =
    let o = c.args.options.now in
    let either : (o.words || o.whole_lines) ≡ true = elim c.else-not-options.branch [
      | else-not-options-via-then-not-options+else-not-options-2 w ↦ by-lines o.words o.whole_lines w.if-not-options.true w.if-not-options-2.false
      | else-not-options-via-else-not-options w ↦ or_left o.words o.whole_lines w.if-not-options.false
    ] in
    framed-searched _ _ c.flags-2.ensures o.words o.whole_lines o.pattern.now c.in_ok-re.re c.as_str.result.now either
    (c.as_str.ensures.value ∙ c.in_ok-framed.ensures) c.in_ok-re.ensures.compiled

pub returns-clause-alone : goal.returns-clause-alone
returns-clause-alone c =
    let o = c.args.options.now in
    alone-is-one _ _ c.flags.ensures o.words o.whole_lines o.pattern.now c.in_ok-alone.alone c.in_ok-alone.ensures.compiled
