use Rattle.std.proofs.Common.{◌≡◌, ◌≤◌, ◌⊎◌, ◌∙◌, ap, map, sym, subst, length}
use Rattle.std.proofs.lemmas.List.{take-map}
use Rattle.std.specs.Prelude.{IfNone, None, option_map}
use Rattle.regress_search.specs.MatchesAsSpecAnswers.{range_as_pair}
use Rattle.use_regexp.specs.Split.{separator}
use Rattle.use_regexp.proofs.SplitLemmas.{cut-more, cut-none, cut-smaller, enough, split-end}
use Rattle.use_regexp.proofs.pattern.Pattern.pieces.Goals as goal

pub next_separator_within_limit-requires : goal.next_separator_within_limit-requires
next_separator_within_limit-requires c = c.cuts.invariant.inside

pub cuts-init : goal.cuts-init
cuts-init c = cut-none c.args.self.now c.args.text.now c.args.limit _ (ap (map (option_map range_as_pair)) c.new-pieces.ensures.items)

pub cuts-preserved : goal.cuts-preserved
cuts-preserved c =
    cut-more c.args.self.now c.args.text.now c.args.limit c.cuts.from _ c.cuts.invariant _ c.in-Some.found c.in-Some.is c.end-from.result c.end-from.ensures
    c.in_ok-found.ensures.stands _ c.in_ok-found.ensures.continues c.in_ok-push_pieces.ensures

pub cuts-preserved-in_ok-push_pieces : goal.cuts-preserved-in_ok-push_pieces
cuts-preserved-in_ok-push_pieces c =
    cut-more c.args.self.now c.args.text.now c.args.limit c.cuts.from _ c.cuts.invariant _ c.in-Some.found c.in-Some.is c.end-from.result c.end-from.ensures
    c.in_ok-found.ensures.stands _ c.in_ok-found.ensures.continues c.in_ok-push_pieces.ensures

pub cuts-smaller : goal.cuts-smaller
cuts-smaller c =
    cut-smaller c.args.self.now c.args.text.now c.args.limit c.cuts.from _ c.cuts.invariant _ c.in-Some.found c.in-Some.is c.end-from.result c.end-from.ensures
    c.in_ok-found.ensures.stands

pub returns-clause-pieces : goal.returns-clause-pieces
returns-clause-pieces c =
    let p = c.args.self.now in
    let us = c.args.text.now in
    let from = c.cuts.from in
    let f = option_map range_as_pair in
    let items = c.cuts.pieces.items in
    let all = c.push_piece.new.pieces.items in
    let ends = subst (λ o. IfNone o ((separator p us from ≡ None) ⊎ (c.args.limit ≤ length c.as_slice.result.now))) c.in_default.is c.in_ok-found.ensures.ends in
    split-end p us c.args.limit from (map f items) c.cuts.invariant.split (map f all) _
    (enough p us f c.args.limit from items c.as_slice.result.now c.as_slice.ensures.value ends)
    c.in_ok-push_piece.ensures (ap (map f) c.truncate.ensures.items ∙ sym (take-map f c.args.limit all))
