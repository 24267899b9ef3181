use Rattle.std.proofs.Common.{◌≡◌, ℕ, ◌+◌, ◌⊎◌, Bool, inl, inr, ap, arith, refl}
use Rattle.regex_meaning.specs.Tree as tree
use Rattle.regex_meaning.specs.ReadingStatesAndDigits.{RemainingCodePoints}
use Rattle.regex_parser.specs.ParserContracts.{group_node_around}
use Rattle.regex_pattern_front.specs.AstToSpecTree.{spec_node_of, group_name_bytes}
use Rattle.regex_parser.specs.GroupIdInvariant.{captures_opened_by_group_kind}
use Rattle.regex_parser.specs.declared.group_openings_and_names.GroupKind.{GroupKind}
use Rattle.regex_parser.specs.declared.group_openings_and_names.GroupKind.TheVariants.{Capture, Named, Look}
use Rattle.regex_pattern_front.proofs.SubtreeListLemmas.{part-group, part-lookaround}
use Rattle.regex_parser.proofs.parse.enclosed.Goals as goal

one : (o : GroupKind) → (o ≡ Capture) ⊎ (o ≡ Named) → captures_opened_by_group_kind o ≡ 1
one o (inl e) = ap captures_opened_by_group_kind e
one o (inr e) = ap captures_opened_by_group_kind e

none : (start : ℕ) (o : GroupKind) (negate backwards : Bool) → o ≡ Look negate backwards → start + captures_opened_by_group_kind o ≡ start
none start o negate backwards e = rw e (omega arith)

pub returns-in_ok-new-in-Capture-clause-part : goal.returns-in_ok-new-in-Capture-clause-part
unfolding spec_node_of
returns-in_ok-new-in-Capture-clause-part c =
    λ greatest p.
    part-group c.args.groups.start c.args.groups.end greatest (group_name_bytes c.args.name) (spec_node_of c.in_ok-new-in-Capture.field-0.value)
    (rw c.in_ok-new-in-Capture.ensures.ok (rw (one c.args.opening c.in-Capture.is) at p))

pub returns-in_ok-new-in-Look-clause-part : goal.returns-in_ok-new-in-Look-clause-part
unfolding spec_node_of
returns-in_ok-new-in-Look-clause-part c =
    λ greatest p.
    part-lookaround c.args.groups.start c.args.groups.end greatest c.in-Look.negate c.in-Look.backwards (spec_node_of c.in_ok-new-in-Look.field-0.value)
    (rw c.in_ok-new-in-Look.ensures.ok (rw (none c.args.groups.start c.args.opening c.in-Look.negate c.in-Look.backwards c.in-Look.is) at p))

around : (o : GroupKind) (name : RemainingCodePoints) (start end : ℕ) (contents : tree.Node) → (o ≡ Capture) ⊎ (o ≡ Named) → tree.capture_group start name contents ≡ group_node_around o name start end contents
around o name start end contents (inl e) = rw e refl
around o name start end contents (inr e) = rw e refl

looks : (o : GroupKind) (name : RemainingCodePoints) (start end : ℕ) (contents : tree.Node) (negate backwards : Bool) → o ≡ Look negate backwards
    → tree.lookaround (record { negate = negate; backwards = backwards; start_group = start; end_group = end }) contents ≡ group_node_around o name start end contents
looks o name start end contents negate backwards e = rw e refl

pub returns-in_ok-new-in-Capture-clause-node : goal.returns-in_ok-new-in-Capture-clause-node
unfolding spec_node_of
returns-in_ok-new-in-Capture-clause-node c =
    rw c.in_ok-new-in-Capture.ensures.ok
    (around c.args.opening (group_name_bytes c.args.name) c.args.groups.start c.args.groups.end (spec_node_of c.args.contents) c.in-Capture.is)

pub returns-in_ok-new-in-Look-clause-node : goal.returns-in_ok-new-in-Look-clause-node
unfolding spec_node_of
returns-in_ok-new-in-Look-clause-node c =
    rw c.in_ok-new-in-Look.ensures.ok
    (looks c.args.opening (group_name_bytes c.args.name) c.args.groups.start c.args.groups.end (spec_node_of c.args.contents) c.in-Look.negate c.in-Look.backwards c.in-Look.is)
