-- In the last arm of a match on kinds, a node is a leaf or lacks the property of the other kinds.
use Rattle.std.proofs.Common.{◌≡◌, ℕ, Bool, true, false, List, [], ◌∷◌, Option, Some, refl, sym, ap, ◌∙◌, Vec, Global, Box, String}
use Rattle.regex_meaning.specs.CompilationRelation.{is_byte_node}
use Rattle.regex_meaning.specs.Tree as tree
use Rattle.regex_meaning.specs.MatchGroupsByNumberAndName.{capturing_group_ids_and_names}
use Rattle.regex_meaning.specs.StartPredicate.{abstract_start_predicate}
use Rattle.regex_pattern_front.specs.AstToSpecTree.{spec_node_of}
use Rattle.regex_pattern_front.specs.declared.ir.Node.{Node}
use Rattle.regex_pattern_front.specs.declared.ir.Node.TheVariants.{Goal, CharSet, ByteSet, ByteSequence, Cat, Alt, StringSet, CaptureGroup, LookaroundAssertion, BackRef, CanonicalBackRef, Loop}
use Rattle.regex_pattern_front.specs.declared.ir.Node.TheVariants.{Loop1CharBody, rolls-Cat, rolls-Alt}
use Rattle.regex_pattern_front.specs.declared.ir.Node.TheVariants.{rolls-CaptureGroup, rolls-LookaroundAssertion, rolls-Loop, rolls-Loop1CharBody}
use Rattle.regex_pattern_front.specs.declared.ir.Node.TheOpen.{Node-F}
use Rattle.regex_pattern_front.specs.declared.ir.Node.TheViews.{roll-Node}
use Rattle.regex_pattern_front.specs.declared.ir.Node.TheFolds.{ind-Node}
use denote.Hole.Carrier.{roll}
use Rattle.regex_pattern_front.proofs.AstToSpecTreeLemmas.{HasNone}
use Rattle.regress_program.specs.GroupIdCheck.{is_well_formed_node}
use Rattle.regress_program.specs.LeafNodesAndOptimizableLoops.{spec_cat_of_children, is_leaf, becomes_char_loop}
use Rattle.regress_program.specs.StartPredicates.{predicate_says_reads_nothing}
use Rattle.regex_meaning.specs.WellFormedTrees.{ends_in_goal}
use Rattle.regex_pattern_front.specs.declared.ir.Quantifier.{Quantifier}
use Rattle.std.specs.declared.ops.Range.{Range}
use Rattle.regress_program.specs.StoringGroupNamesById.{is_nameless}
use Rattle.regress_program.specs.AtMostOneGoalNodeCheck.{visit_goal}
use Rattle.regress_program.specs.declared.emit.well_formedness_check.SecondGoalNodeDetector.{SecondGoalNodeDetector}
use Rattle.regress_program.proofs.NodeListLemmas.{spec_node_of-Cat}

-- ---- Nodes without children

leaf-rolled : (x : Node-F Node) → HasNone (roll-Node x) → is_leaf (spec_node_of (roll-Node x)) ≡ true
unfolding spec_node_of roll-Node roll
leaf-rolled (Node-F.Cat v) h = absurd (h.not_Cat v (sym (rolls-Cat v)))
leaf-rolled (Node-F.Alt l r) h = absurd (h.not_Alt l r (sym (rolls-Alt l r)))
leaf-rolled (Node-F.CaptureGroup i n name) h = absurd (h.not_CaptureGroup i n name (sym (rolls-CaptureGroup i n name)))
leaf-rolled (Node-F.LookaroundAssertion n b s e c) h = absurd (h.not_LookaroundAssertion n b s e c (sym (rolls-LookaroundAssertion n b s e c)))
leaf-rolled (Node-F.Loop l q e) h = absurd (h.not_Loop l q e (sym (rolls-Loop l q e)))
leaf-rolled (Node-F.Loop1CharBody l q) h = absurd (h.not_Loop1CharBody l q (sym (rolls-Loop1CharBody l q)))
leaf-rolled _ h = refl

leaf-of : (n : Node) → HasNone n → is_leaf (spec_node_of n) ≡ true
leaf-of = ind-Node (λ n. HasNone n → is_leaf (spec_node_of n) ≡ true) (λ x y is. leaf-rolled x)

-- In the last arm of a match on nodes with children, the node is a leaf.
pub leaf-left : (n : Node) → ((v : Vec Node Global) → n ≡ Cat v → ⊥) → ((l r : Box Node Global) → n ≡ Alt l r → ⊥)
    → ((id : ℕ) (contents : Box Node Global) (name : Option (String Global)) → n ≡ CaptureGroup id contents name → ⊥)
    → ((negate backwards : Bool) (s e : ℕ) (contents : Box Node Global) → n ≡ LookaroundAssertion negate backwards s e contents → ⊥)
    → ((loopee : Box Node Global) (q : Quantifier) (groups : Range ℕ) → n ≡ Loop loopee q groups → ⊥) → ((loopee : Box Node Global) (q : Quantifier) → n ≡ Loop1CharBody loopee q → ⊥)
    → is_leaf (spec_node_of n) ≡ true
leaf-left n cat alt group look loop run =
    leaf-of n (record { not_Cat = cat; not_Alt = alt; not_CaptureGroup = group; not_LookaroundAssertion = look; not_Loop = loop; not_Loop1CharBody = run })

-- ---- Nodes of the other kinds

-- What holds of the end of a list and of a node before others holds of each node list.
row : {A : Type 0} (f : tree.Node → A) (a : A) (v : Vec Node Global) → f tree.end_of_cat ≡ a → ((first rest : tree.Node) → f (tree.cat first rest) ≡ a) → f (spec_node_of (Cat v)) ≡ a
row f a v none some = ap f (spec_node_of-Cat v) ∙ by v.items
  where
    by : (ns : List Node) → f (spec_cat_of_children ns) ≡ a
    by [] = none
    by (m ∷ ms) = some (spec_node_of m) (spec_cat_of_children ms)

goals-rolled : (x : Node-F Node) (it : SecondGoalNodeDetector) → (roll-Node x ≡ Goal → ⊥) → visit_goal (spec_node_of (roll-Node x)) it ≡ Some it
unfolding spec_node_of roll-Node roll
goals-rolled Node-F.Goal it h = absurd (h refl)
goals-rolled (Node-F.Cat v) it h = row (λ n. visit_goal n it) (Some it) v refl (λ first rest. refl)
goals-rolled _ it h = refl

pub goals-other : (n : Node) (it : SecondGoalNodeDetector) → (n ≡ Goal → ⊥) → visit_goal (spec_node_of n) it ≡ Some it
goals-other = ind-Node (λ n. (it : SecondGoalNodeDetector) → (n ≡ Goal → ⊥) → visit_goal (spec_node_of n) it ≡ Some it) (λ x y is. goals-rolled x)

bytes-rolled : (x : Node-F Node) → ((v : Vec ℕ Global) → roll-Node x ≡ ByteSet v → ⊥) → ((v : Vec ℕ Global) → roll-Node x ≡ ByteSequence v → ⊥) → is_byte_node (spec_node_of (roll-Node x)) ≡ false
unfolding spec_node_of roll-Node roll
bytes-rolled (Node-F.ByteSet v) h k = absurd (h v refl)
bytes-rolled (Node-F.ByteSequence v) h k = absurd (k v refl)
bytes-rolled (Node-F.Cat v) h k = row is_byte_node false v refl (λ first rest. refl)
bytes-rolled _ h k = refl

pub bytes-other : (n : Node) → ((v : Vec ℕ Global) → n ≡ ByteSet v → ⊥) → ((v : Vec ℕ Global) → n ≡ ByteSequence v → ⊥) → is_byte_node (spec_node_of n) ≡ false
bytes-other = ind-Node (λ n. ((v : Vec ℕ Global) → n ≡ ByteSet v → ⊥) → ((v : Vec ℕ Global) → n ≡ ByteSequence v → ⊥) → is_byte_node (spec_node_of n) ≡ false) (λ x y is. bytes-rolled x)

narrowed-rolled : (x : Node-F Node) → ((loopee : Box Node Global) (q : Quantifier) (groups : Range ℕ) → roll-Node x ≡ Loop loopee q groups → ⊥) → becomes_char_loop (spec_node_of (roll-Node x)) ≡ false
unfolding spec_node_of roll-Node roll
narrowed-rolled (Node-F.Loop loopee q groups) h = absurd (h loopee q groups (sym (rolls-Loop loopee q groups)))
narrowed-rolled (Node-F.Cat v) h = row becomes_char_loop false v refl (λ first rest. refl)
narrowed-rolled _ h = refl

pub narrowed-other : (n : Node) → ((loopee : Box Node Global) (q : Quantifier) (groups : Range ℕ) → n ≡ Loop loopee q groups → ⊥) → becomes_char_loop (spec_node_of n) ≡ false
narrowed-other = ind-Node (λ n. ((loopee : Box Node Global) (q : Quantifier) (groups : Range ℕ) → n ≡ Loop loopee q groups → ⊥) → becomes_char_loop (spec_node_of n) ≡ false) (λ x y is. narrowed-rolled x)

names-rolled : (x : Node-F Node) → ((id : ℕ) (contents : Box Node Global) (name : Option (String Global)) → roll-Node x ≡ CaptureGroup id contents name → ⊥) → is_nameless (spec_node_of (roll-Node x)) ≡ true
unfolding spec_node_of roll-Node roll
names-rolled (Node-F.CaptureGroup i n name) h = absurd (h i n name (sym (rolls-CaptureGroup i n name)))
names-rolled (Node-F.Cat v) h = row is_nameless true v refl (λ first rest. refl)
names-rolled _ h = refl

pub names-other : (n : Node) → ((id : ℕ) (contents : Box Node Global) (name : Option (String Global)) → n ≡ CaptureGroup id contents name → ⊥) → is_nameless (spec_node_of n) ≡ true
names-other = ind-Node (λ n. ((id : ℕ) (contents : Box Node Global) (name : Option (String Global)) → n ≡ CaptureGroup id contents name → ⊥) → is_nameless (spec_node_of n) ≡ true) (λ x y is. names-rolled x)

ends-rolled : (x : Node-F Node) → (roll-Node x ≡ Goal → ⊥) → ((v : Vec Node Global) → roll-Node x ≡ Cat v → ⊥) → ends_in_goal (spec_node_of (roll-Node x)) ≡ false
unfolding spec_node_of roll-Node roll
ends-rolled Node-F.Goal h k = absurd (h refl)
ends-rolled (Node-F.Cat v) h k = absurd (k v (sym (rolls-Cat v)))
ends-rolled _ h k = refl

pub ends-other : (n : Node) → (n ≡ Goal → ⊥) → ((v : Vec Node Global) → n ≡ Cat v → ⊥) → ends_in_goal (spec_node_of n) ≡ false
ends-other = ind-Node (λ n. (n ≡ Goal → ⊥) → ((v : Vec Node Global) → n ≡ Cat v → ⊥) → ends_in_goal (spec_node_of n) ≡ false) (λ x y is. ends-rolled x)

sound-rolled : (groups : ℕ) (x : Node-F Node) → ((v : Vec ℕ Global) → roll-Node x ≡ CharSet v → ⊥) → ((v : Vec ℕ Global) → roll-Node x ≡ ByteSet v → ⊥) → ((v : Vec ℕ Global) → roll-Node x ≡ ByteSequence v → ⊥)
    → ((strings : Vec (Vec ℕ Global) Global) (icase : Bool) → roll-Node x ≡ StringSet strings icase → ⊥) → ((group : ℕ) (icase : Bool) → roll-Node x ≡ BackRef group icase → ⊥) → ((group : ℕ) (unicode : Bool) → roll-Node x ≡ CanonicalBackRef group unicode → ⊥)
    → ((loopee : Box Node Global) (q : Quantifier) (groups : Range ℕ) → roll-Node x ≡ Loop loopee q groups → ⊥) → ((loopee : Box Node Global) (q : Quantifier) → roll-Node x ≡ Loop1CharBody loopee q → ⊥)
    → is_well_formed_node groups (spec_node_of (roll-Node x)) ≡ true
unfolding spec_node_of roll-Node roll
sound-rolled groups (Node-F.CharSet v) h1 h2 h3 h4 h5 h6 h7 h8 = absurd (h1 v refl)
sound-rolled groups (Node-F.ByteSet v) h1 h2 h3 h4 h5 h6 h7 h8 = absurd (h2 v refl)
sound-rolled groups (Node-F.ByteSequence v) h1 h2 h3 h4 h5 h6 h7 h8 = absurd (h3 v refl)
sound-rolled groups (Node-F.StringSet v i) h1 h2 h3 h4 h5 h6 h7 h8 = absurd (h4 v i refl)
sound-rolled groups (Node-F.BackRef g i) h1 h2 h3 h4 h5 h6 h7 h8 = absurd (h5 g i refl)
sound-rolled groups (Node-F.CanonicalBackRef g u) h1 h2 h3 h4 h5 h6 h7 h8 = absurd (h6 g u refl)
sound-rolled groups (Node-F.Loop b q g) h1 h2 h3 h4 h5 h6 h7 h8 = absurd (h7 b q g (sym (rolls-Loop b q g)))
sound-rolled groups (Node-F.Loop1CharBody b q) h1 h2 h3 h4 h5 h6 h7 h8 = absurd (h8 b q (sym (rolls-Loop1CharBody b q)))
sound-rolled groups (Node-F.Cat v) h1 h2 h3 h4 h5 h6 h7 h8 = row (is_well_formed_node groups) true v refl (λ first rest. refl)
sound-rolled groups _ h1 h2 h3 h4 h5 h6 h7 h8 = refl

pub sound-other : (groups : ℕ) (n : Node) → ((v : Vec ℕ Global) → n ≡ CharSet v → ⊥) → ((v : Vec ℕ Global) → n ≡ ByteSet v → ⊥) → ((v : Vec ℕ Global) → n ≡ ByteSequence v → ⊥)
    → ((strings : Vec (Vec ℕ Global) Global) (icase : Bool) → n ≡ StringSet strings icase → ⊥) → ((group : ℕ) (icase : Bool) → n ≡ BackRef group icase → ⊥) → ((group : ℕ) (unicode : Bool) → n ≡ CanonicalBackRef group unicode → ⊥)
    → ((loopee : Box Node Global) (q : Quantifier) (groups : Range ℕ) → n ≡ Loop loopee q groups → ⊥) → ((loopee : Box Node Global) (q : Quantifier) → n ≡ Loop1CharBody loopee q → ⊥)
    → is_well_formed_node groups (spec_node_of n) ≡ true
sound-other groups = ind-Node (λ n. ((v : Vec ℕ Global) → n ≡ CharSet v → ⊥) → ((v : Vec ℕ Global) → n ≡ ByteSet v → ⊥) → ((v : Vec ℕ Global) → n ≡ ByteSequence v → ⊥)
    → ((strings : Vec (Vec ℕ Global) Global) (icase : Bool) → n ≡ StringSet strings icase → ⊥) → ((group : ℕ) (icase : Bool) → n ≡ BackRef group icase → ⊥) → ((group : ℕ) (unicode : Bool) → n ≡ CanonicalBackRef group unicode → ⊥)
    → ((loopee : Box Node Global) (q : Quantifier) (groups : Range ℕ) → n ≡ Loop loopee q groups → ⊥) → ((loopee : Box Node Global) (q : Quantifier) → n ≡ Loop1CharBody loopee q → ⊥)
    → is_well_formed_node groups (spec_node_of n) ≡ true) (λ x y is. sound-rolled groups x)

-- ---- Properties that no leaf has

-- A node has no group name, and its start is not that of a node that reads nothing.
pub record IsBare (n : tree.Node) : Type 0 where
  pub named : capturing_group_ids_and_names n ≡ []
  pub reads : predicate_says_reads_nothing (abstract_start_predicate n) ≡ false

pub leaf-bare : (n : tree.Node) → is_leaf n ≡ true → IsBare n
unfolding abstract_start_predicate
leaf-bare (tree.byte_sequence []) h = record { named = refl; reads = refl }
leaf-bare (tree.byte_sequence (b ∷ bytes)) h = record { named = refl; reads = refl }
leaf-bare (tree.cat first rest) h = absurd (let no : ⊥ = cc in no)
leaf-bare tree.end_of_cat h = absurd (let no : ⊥ = cc in no)
leaf-bare (tree.alt left right) h = absurd (let no : ⊥ = cc in no)
leaf-bare (tree.capture_group id name contents) h = absurd (let no : ⊥ = cc in no)
leaf-bare (tree.lookaround l contents) h = absurd (let no : ⊥ = cc in no)
leaf-bare (tree.loop q start_group end_group loopee) h = absurd (let no : ⊥ = cc in no)
leaf-bare (tree.loop_1_char_body q loopee) h = absurd (let no : ⊥ = cc in no)
leaf-bare _ h = record { named = refl; reads = refl }
