use Rattle.std.proofs.Common.{◌≡◌, ap, sym, ◌∙◌}
use Rattle.regress_bounded.proofs.StagesLemmas.{ok-map}
use Rattle.regress_bounded.proofs.executor.BoundedExecutor.new_second_stage.Goals as goal

pub returns-clause-program : goal.returns-clause-program
returns-clause-program g c =
    ok-map c.over.result (λ m same. ap (λ s. s.program.now) same ∙ ap (λ s. s.program.now) c.searched-searched.ensures ∙ sym c.args.self.now.first.executor.search.same) c.over.ensures.searched

pub returns-clause-text : goal.returns-clause-text
returns-clause-text g c =
    ok-map c.over.result (λ m same. ap (λ s. g.Input.InputIndexer.text s.input) same ∙ ap (λ s. g.Input.InputIndexer.text s.input) c.searched-searched.ensures) c.over.ensures.searched
