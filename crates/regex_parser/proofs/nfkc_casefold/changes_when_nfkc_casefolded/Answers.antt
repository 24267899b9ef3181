use Rattle.std.proofs.Common.{◌≡◌, ◌∙◌, sym, ap, not, arith}
use Rattle.regex_meaning.specs.UnicodeProperties.{is_nfkc_casefolded}
use Rattle.regex_parser.specs.ClassReaderContracts.{is_in_any_interval}
use Rattle.regex_parser.proofs.ClassReaderLemmas.{ok-map}
use Rattle.regex_parser.proofs.NfkcCasefoldLemmas.{holds-none, holds-more, holds-same, holds-all}
use Rattle.regex_parser.proofs.nfkc_casefold.changes_when_nfkc_casefolded.Goals.{then-branch+in_ok-push, else-branch}
use Rattle.regex_parser.proofs.nfkc_casefold.changes_when_nfkc_casefolded.Goals as goal

pub loop-c-init : goal.loop-c-init
loop-c-init c = λ d. ap (λ x. is_in_any_interval x d) c.new-intervals.ensures.items ∙ holds-none (λ d. not (is_nfkc_casefolded d)) d

pub loop-c-preserved : goal.loop-c-preserved
loop-c-preserved c =
    let old = c.loop-c.intervals.items in
    let n = c.loop-c.c in
    elim c.if-branch.branch [
      | then-branch+in_ok-push w ↦ λ d.
          ap (λ x. is_in_any_interval x d) (ap (λ v. v.items) w.intervals-is ∙ w.in_ok-push.ensures.items)
          ∙ holds-more (λ d. not (is_nfkc_casefolded d)) old n (sym w.if-branch.true ∙ c.in_ok-is_changed_code_point.ensures) c.loop-c.invariant d
      | else-branch w ↦ λ d.
          ap (λ x. is_in_any_interval x d) (ap (λ v. v.items) w.intervals-is)
          ∙ holds-same (λ d. not (is_nfkc_casefolded d)) old n (sym w.if-branch.false ∙ c.in_ok-is_changed_code_point.ensures) c.loop-c.invariant d
    ]

pub returns : goal.returns
returns c =
    let all : c.loop-c.c ≡ 0x11_0000 = omega arith in
    ok-map c.from_intervals.result c.from_intervals.ensures.members
    (λ s h. holds-all c.loop-c.intervals.items s c.loop-c.c all c.loop-c.invariant (λ d. h d ∙ ap (λ x. is_in_any_interval x d) c.deref.ensures.value))
