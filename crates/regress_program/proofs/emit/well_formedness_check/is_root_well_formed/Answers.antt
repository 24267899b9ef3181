use Rattle.std.proofs.Common.{◌≡◌, ◌≤◌, true, false, length, ◌∙◌, ap, sym, refl, arith}
use Rattle.std.proofs.lemmas.Bool.{false≢true}
use Rattle.regex_meaning.specs.Tree.{group_ids}
use Rattle.regex_meaning.proofs.WellFormedTreesLemmas.{clauses}
use Rattle.regex_pattern_front.specs.AstToSpecTree.{spec_node_of}
use Rattle.regress_program.specs.GroupIdCheck.{end_of_group_ids, has_exact_group_ids}
use Rattle.regress_program.proofs.GroupIdCheckLemmas.{sound_is_well_formed, well_formed_is_sound, well_formed_is_found, well_formed_has_room, few_ids}
use Rattle.regress_program.proofs.emit.well_formedness_check.is_root_well_formed.Goals as goal

pub returns-then-not-is_goal_last : goal.returns-then-not-is_goal_last
returns-then-not-is_goal_last c = (
  λ h. absurd (false≢true h),
  λ w. sym c.if-not-is_goal_last.true ∙ c.is_goal_last.ensures ∙ (clauses (spec_node_of c.args.root.now) w).goal_last,
)

pub returns-in_default : goal.returns-in_default
returns-in_default c =
    let root = spec_node_of c.args.root.now in
    (λ h. absurd (false≢true h), λ w. absurd (false≢true (c.in_default.ensures.exact ∙ well_formed_is_found root (λ k. false) (λ k. refl) w)))

pub returns-then-span : goal.returns-then-span
returns-then-span c =
    let root = spec_node_of c.args.root.now in
    let span = c.in-Some.ensures.span in
    let few = few_ids root (λ k. false) _ c.in-Some.ensures.exact (omega (arith, ap (λ s. s.high) span, c.in-Some.ensures.high)) in
    (λ h. absurd (false≢true h), λ w. absurd (omega (arith, well_formed_has_room root w, few, ap (λ s. s.high) span, ap (λ s. s.count) span, c.if-span.true)))

pub returns : goal.returns
returns c =
    let root = spec_node_of c.args.root.now in
    let found = c.in-Some.ensures.exact in
    let span = c.in-Some.ensures.span in
    let few = few_ids root (λ k. false) _ found (omega (arith, ap (λ s. s.high) span, c.in-Some.ensures.high)) in
    let count : c.in-Some.span.count ≡ length (group_ids root) = omega (arith, few, ap (λ s. s.count) span) in
    let high : end_of_group_ids (group_ids root) ≤ c.in-Some.span.count = omega (arith, ap (λ s. s.high) span, c.if-span.false) in
    let last = sym c.is_goal_last.ensures ∙ c.if-not-is_goal_last.false in (
      λ h. sound_is_well_formed root (λ k. false) c.in-Some.span.count last found count high (sym c.has_well_formed_nodes.ensures ∙ h),
      λ w. c.has_well_formed_nodes.ensures ∙ well_formed_is_sound root c.in-Some.span.count count w,
    )
