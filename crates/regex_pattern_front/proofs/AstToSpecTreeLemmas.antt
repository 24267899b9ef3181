-- Optimizing a node of the code optimizes its specified tree, for each kind of node.
use Rattle.std.proofs.Common.{◌≡◌, Bool, false, List, [], ◌∷◌, ℕ, zero, suc, ◌+◌, ◌-◌, ◌<◌, ap, ◌∙◌, refl, arith, length, get_or, sym, Vec, Global, Box, Option, String}
use Rattle.regex_meaning.specs.Tree as tree
use Rattle.regex_pattern_front.specs.AstToSpecTree.{spec_node_of, nodes_of, spec_cat_of_children}
use Rattle.regex_pattern_front.specs.OptimizedTrees.{reads_one_character, optimized, loop_turned_into_char_loop, rest_of_alternatives, first_alternative_prepended_to_chain}
use Rattle.regex_pattern_front.specs.OptimizedTrees.{alternatives_with_links_unreversed}
use Rattle.regex_pattern_front.specs.declared.ir.Node.{Node, Row_of-Node, end_of-Node, more_of-Node, items-the_row-Node, items_hidden-the_row-Node-0, Cat'}
use Rattle.regex_pattern_front.specs.declared.ir.Node.TheVariants.{Char, CharSet, ByteSet, Cat, Alt, Bracket, MatchAny, MatchAnyExceptLineTerminator, CaptureGroup, LookaroundAssertion, Loop}
use Rattle.regex_pattern_front.specs.declared.ir.Node.TheVariants.{Loop1CharBody, rolls-Cat, rolls-Alt}
use Rattle.regex_pattern_front.specs.declared.ir.Node.TheVariants.{rolls-CaptureGroup, rolls-LookaroundAssertion, rolls-Loop, rolls-Loop1CharBody}
use Rattle.regex_pattern_front.specs.declared.ir.Node.TheOpen.{Node-F}
use Rattle.regex_pattern_front.specs.declared.ir.Node.TheViews.{roll-Node}
use Rattle.regex_pattern_front.specs.declared.ir.Quantifier.{Quantifier}
use Rattle.std.specs.declared.ops.Range.{Range}
use denote.Hole.Carrier.{roll}
use Rattle.regex_pattern_front.specs.declared.ir.Node.TheFolds.{ind-Node}
use Rattle.regex_pattern_front.specs.declared.types.BracketContents.{BracketContents}

row_is : (n : _) (row : Row_of-Node n) → nodes_of row ≡ spec_cat_of_children (items-the_row-Node n row)
unfolding nodes_of
row_is n end_of-Node = refl
row_is n (more_of-Node node rest) = ap (λ t. tree.cat (spec_node_of node) t) (row_is _ rest)

abbrev row_in : Node → (n : _) × Row_of-Node n
row_in (Cat' _ row) = (_, row)
row_in _ = (_, end_of-Node)

pub spec_node_of-Cat : (nodes : Vec Node Global) → spec_node_of (Cat nodes) ≡ spec_cat_of_children nodes.items
unfolding spec_node_of
spec_node_of-Cat nodes =
    let row = row_in (Cat nodes) in
    row_is row.0 row.1 ∙ ap spec_cat_of_children (items_hidden-the_row-Node-0 nodes)

pub reads-other : (node : Node)
    → ((c : ℕ) → node ≡ Char c → ⊥) → ((v : Vec ℕ Global) → node ≡ CharSet v → ⊥) → ((v : Vec ℕ Global) → node ≡ ByteSet v → ⊥)
    → ((b : BracketContents) → node ≡ Bracket b → ⊥) → (node ≡ MatchAny → ⊥) → (node ≡ MatchAnyExceptLineTerminator → ⊥)
    → reads_one_character (spec_node_of node) ≡ false
unfolding spec_node_of
reads-other (Char c) h1 h2 h3 h4 h5 h6 = absurd (h1 c refl)
reads-other (CharSet v) h1 h2 h3 h4 h5 h6 = absurd (h2 v refl)
reads-other (ByteSet v) h1 h2 h3 h4 h5 h6 = absurd (h3 v refl)
reads-other (Bracket b) h1 h2 h3 h4 h5 h6 = absurd (h4 b refl)
reads-other MatchAny h1 h2 h3 h4 h5 h6 = absurd (h5 refl)
reads-other MatchAnyExceptLineTerminator h1 h2 h3 h4 h5 h6 = absurd (h6 refl)
reads-other (Cat' shape row) h1 h2 h3 h4 h5 h6 = no_row _ row
  where
    no_row : (n : _) (row : Row_of-Node n) → reads_one_character (nodes_of row) ≡ false
    no_row n end_of-Node = refl
    no_row n (more_of-Node node rest) = refl
reads-other _ h1 h2 h3 h4 h5 h6 = refl

-- If each node of a list is the optimized node of another list, so is the sequence of the nodes.
pub optimized-children : (xs ys : List Node) → length xs ≡ length ys
    → ((k : ℕ) (d : Node) → k < length ys → spec_node_of (get_or xs k d) ≡ optimized (spec_node_of (get_or ys k d))) → spec_cat_of_children xs ≡ optimized (spec_cat_of_children ys)
unfolding optimized
optimized-children [] [] same each = refl
optimized-children [] (y ∷ ys) same each = absurd (omega arith)
optimized-children (x ∷ xs) [] same each = absurd (omega arith)
optimized-children (x ∷ xs) (y ∷ ys) same each =
    rw (each 0 x (omega arith), optimized-children xs ys (omega arith) (λ k d h. each (suc k) d (omega arith)))

-- A node without nodes inside is of none of these kinds.
pub record HasNone (n : Node) : Type 0 where
  pub not_Cat : (v : Vec Node Global) → n ≡ Cat v → ⊥
  pub not_Alt : (l r : Box Node Global) → n ≡ Alt l r → ⊥
  pub not_CaptureGroup : (id : ℕ) (contents : Box Node Global) (name : Option (String Global)) → n ≡ CaptureGroup id contents name → ⊥
  pub not_LookaroundAssertion : (negate backwards : Bool) (s e : ℕ) (contents : Box Node Global) → n ≡ LookaroundAssertion negate backwards s e contents → ⊥
  pub not_Loop : (loopee : Box Node Global) (q : Quantifier) (groups : Range ℕ) → n ≡ Loop loopee q groups → ⊥
  pub not_Loop1CharBody : (loopee : Box Node Global) (q : Quantifier) → n ≡ Loop1CharBody loopee q → ⊥

optimized-rolled : (x : Node-F Node) → HasNone (roll-Node x) → spec_node_of (roll-Node x) ≡ optimized (spec_node_of (roll-Node x))
unfolding spec_node_of optimized roll-Node roll
optimized-rolled (Node-F.Cat v) h = absurd (h.not_Cat v (sym (rolls-Cat v)))
optimized-rolled (Node-F.Alt l r) h = absurd (h.not_Alt l r (sym (rolls-Alt l r)))
optimized-rolled (Node-F.CaptureGroup i n name) h = absurd (h.not_CaptureGroup i n name (sym (rolls-CaptureGroup i n name)))
optimized-rolled (Node-F.LookaroundAssertion n b s e c) h = absurd (h.not_LookaroundAssertion n b s e c (sym (rolls-LookaroundAssertion n b s e c)))
optimized-rolled (Node-F.Loop l q e) h = absurd (h.not_Loop l q e (sym (rolls-Loop l q e)))
optimized-rolled (Node-F.Loop1CharBody l q) h = absurd (h.not_Loop1CharBody l q (sym (rolls-Loop1CharBody l q)))
optimized-rolled _ h = refl

pub optimized-leaf : (n : Node) → HasNone n → spec_node_of n ≡ optimized (spec_node_of n)
optimized-leaf = ind-Node (λ n. HasNone n → spec_node_of n ≡ optimized (spec_node_of n)) (λ x y is. optimized-rolled x)

-- ---- Nodes that are neither loops nor alternatives

narrowed-Cat : (v : Vec Node Global) → spec_node_of (Cat v) ≡ loop_turned_into_char_loop (spec_node_of (Cat v))
narrowed-Cat v = rw (spec_node_of-Cat v) (of v.items)
  where
    of : (xs : List Node) → spec_cat_of_children xs ≡ loop_turned_into_char_loop (spec_cat_of_children xs)
    of [] = refl
    of (x ∷ xs) = refl

narrowed-rolled : (x : Node-F Node) → ((l : Box Node Global) (q : Quantifier) (groups : Range ℕ) → roll-Node x ≡ Loop l q groups → ⊥)
    → spec_node_of (roll-Node x) ≡ loop_turned_into_char_loop (spec_node_of (roll-Node x))
unfolding spec_node_of roll-Node roll
narrowed-rolled (Node-F.Cat v) h = narrowed-Cat v
narrowed-rolled (Node-F.Loop l q e) h = absurd (h l q e (sym (rolls-Loop l q e)))
narrowed-rolled _ h = refl

pub narrowed-other : (n : Node) → ((l : Box Node Global) (q : Quantifier) (groups : Range ℕ) → n ≡ Loop l q groups → ⊥) → spec_node_of n ≡ loop_turned_into_char_loop (spec_node_of n)
narrowed-other = ind-Node (λ n. ((l : Box Node Global) (q : Quantifier) (groups : Range ℕ) → n ≡ Loop l q groups → ⊥) → spec_node_of n ≡ loop_turned_into_char_loop (spec_node_of n)) (λ x y is. narrowed-rolled x)

-- The node has no first alternative that could be moved to the rest.
abbrev pub HasNoFirst : (node rest : tree.Node) → Type 0
HasNoFirst node rest = record {
  from : node ≡ rest_of_alternatives node;
  to : rest ≡ first_alternative_prepended_to_chain node rest;
}

unturned-Cat : (rest : tree.Node) (v : Vec Node Global) → HasNoFirst (spec_node_of (Cat v)) rest
unturned-Cat rest v = rw (spec_node_of-Cat v) (of v.items)
  where
    of : (xs : List Node) → HasNoFirst (spec_cat_of_children xs) rest
    of [] = record { from = refl; to = refl }
    of (x ∷ xs) = record { from = refl; to = refl }

unturned-rolled : (rest : tree.Node) (x : Node-F Node) → ((l r : Box Node Global) → roll-Node x ≡ Alt l r → ⊥) → HasNoFirst (spec_node_of (roll-Node x)) rest
unfolding spec_node_of roll-Node roll
unturned-rolled rest (Node-F.Cat v) h = unturned-Cat rest v
unturned-rolled rest (Node-F.Alt l r) h = absurd (h l r (sym (rolls-Alt l r)))
unturned-rolled rest _ h = record { from = refl; to = refl }

pub unturned : (rest : tree.Node) (n : Node) → ((l r : Box Node Global) → n ≡ Alt l r → ⊥) → HasNoFirst (spec_node_of n) rest
unturned rest = ind-Node (λ n. ((l r : Box Node Global) → n ≡ Alt l r → ⊥) → HasNoFirst (spec_node_of n) rest) (λ x y is. unturned-rolled rest x)

-- ---- Alternatives that were turned

pub turned-step : (count : ℕ) (done rest : tree.Node) → 0 < count
    → alternatives_with_links_unreversed (count - 1) (rest_of_alternatives done) (first_alternative_prepended_to_chain done rest) ≡ alternatives_with_links_unreversed count done rest
turned-step zero done rest h = absurd (omega (arith, h))
turned-step (suc count) done rest h =
    let less : suc count - 1 ≡ count = omega arith in
    ap (λ n. alternatives_with_links_unreversed n (rest_of_alternatives done) (first_alternative_prepended_to_chain done rest)) less

pub turned-all : (count : ℕ) (done rest : tree.Node) → count ≡ 0 → alternatives_with_links_unreversed count done rest ≡ tree.alt done rest
turned-all count done rest h = rw h refl

pub turned-one : (count : ℕ) (left done rest : tree.Node)
    → alternatives_with_links_unreversed (count + 1) (tree.alt left done) rest ≡ alternatives_with_links_unreversed count done (tree.alt left rest)
turned-one count left done rest =
    let more : count + 1 ≡ suc count = omega arith in
    ap (λ n. alternatives_with_links_unreversed n (tree.alt left done) rest) more
