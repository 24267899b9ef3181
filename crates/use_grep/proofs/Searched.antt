-- A compiled pattern searches for the matches of its tree.
use Rattle.std.proofs.Common.{◌≡◌, ℕ, List, [], ◌∷◌, Bool, true, false, refl, ap, sym, subst, ◌∙◌, filter}
use Rattle.std.specs.Prelude.{◌||◌, chars, is_some, slice_get, if◌then◌else◌}
use Rattle.regex_meaning.specs.Tree.{Flags, Tree}
use Rattle.regex_meaning.specs.FlagLettersAndEscaping.{flags_from_letters}
use Rattle.regex_meaning.specs.EcmaGrammarWithAnnexB.{ParsesEcmaScript, ecmascript}
use Rattle.regress_match.specs.ProgramTreesAndAnswers.{IsCompiledWithSyntax, tree_for_16_bit_units}
use Rattle.regress_match.specs.declared.api.regex.Regex.{Regex}
use Rattle.regress_match.proofs.FlagLemmas.{flags_by}
use Rattle.regress_match.proofs.GrammarTreeLemmas.{ecmascript-searches-follow}
use Rattle.regex_meaning.proofs.EachElementLemmas.{Each, Each-map}
use Rattle.use_grep.specs.Selecting.{LinesOfTextWithoutMatchHaveNone, IsLocal, HasMatchesOfGrammar, framed, has_match, lines_of, searched, tree_flags}
use Rattle.use_grep.proofs.InParts.{lines-have_none}

-- Flags that differ only in `i`.
pub flags-of_case : (b m d n u v : Bool) → m ≡ false → d ≡ false → n ≡ false → u ≡ false → v ≡ false → flags_by b m d n u v ≡ tree_flags b
unfolding flags_from_letters
flags-of_case true m d n u v em ed en eu ev = rw (em, ed, en, eu, ev) refl
flags-of_case false m d n u v em ed en eu ev = rw (em, ed, en, eu, ev) refl

is-search : (flags : Flags) (pattern : List ℕ) (re : Regex) → IsCompiledWithSyntax ecmascript flags (chars pattern) re → HasMatchesOfGrammar flags pattern re
is-search flags pattern re is = record {
  tree = tree_for_16_bit_units re;
  parsed = is.parsed;
  found = λ tree parsed line. ap (λ answers. is_some (slice_get answers 0)) (ecmascript-searches-follow flags (chars pattern) re tree is parsed line 0).0;
}

-- If the grammar has a local tree for the pattern, the lines of a text without a match have none.
pub none-in_lines : (flags : Flags) (pattern : List ℕ) (re : Regex) → IsCompiledWithSyntax ecmascript flags (chars pattern) re → IsLocal flags pattern → LinesOfTextWithoutMatchHaveNone re
none-in_lines flags pattern re is local text utf8 none =
    let found = (is-search flags pattern re is).found local.0 local.1 in
    filter-none (has_match re) (lines_of text)
    (Each-map _ _ (λ line h. found line ∙ h) (lines_of text)
    (lines-have_none local.0.root flags.unicode text local.2 utf8 (sym (found text) ∙ none)))
  where
    filter-none : (test : List ℕ → Bool) (lines : List (List ℕ)) → Each (λ line. test line ≡ false) lines → filter test lines ≡ []
    filter-none test [] h = refl
    filter-none test (line ∷ lines) h = rw (h.0, filter-none test lines h.1) refl

module _ (flags wanted : Flags) (same : flags ≡ wanted) (words whole_lines : Bool) (pattern : List ℕ) (re : Regex) where
  -- The flags and the searched pattern, in terms of the options.
  search-of : (text : List ℕ) → IsCompiledWithSyntax ecmascript flags (chars text) re → HasMatchesOfGrammar wanted text re
  search-of text is = is-search wanted text re (subst (λ f. IsCompiledWithSyntax ecmascript f (chars text) re) same is)

  abbrev chosen : Bool → List ℕ
  chosen b = if b then framed whole_lines pattern else pattern

  neither : words ≡ false → whole_lines ≡ false → (words || whole_lines) ≡ false
  neither w l = rw (w, l) refl

  pub alone-searched : words ≡ false → whole_lines ≡ false → IsCompiledWithSyntax ecmascript flags (chars pattern) re
      → HasMatchesOfGrammar wanted (searched words whole_lines pattern) re
  alone-searched w l is = subst (λ b. HasMatchesOfGrammar wanted (chosen b) re) (sym (neither w l)) (search-of pattern is)

  pub framed-searched : (text : List ℕ) → (words || whole_lines) ≡ true → text ≡ framed whole_lines pattern → IsCompiledWithSyntax ecmascript flags (chars text) re
      → HasMatchesOfGrammar wanted (searched words whole_lines pattern) re
  framed-searched text either is_framed is =
      subst (λ b. HasMatchesOfGrammar wanted (chosen b) re) (sym either) (subst (λ t. HasMatchesOfGrammar wanted t re) is_framed (search-of text is))

  pub alone-is-one : IsCompiledWithSyntax ecmascript flags (chars pattern) re → (tree : Tree) × ParsesEcmaScript wanted (chars pattern) tree
  alone-is-one is = (tree_for_16_bit_units re, subst (λ f. ParsesEcmaScript f (chars pattern) (tree_for_16_bit_units re)) same is.parsed)

pub by-lines : (words whole_lines : Bool) → words ≡ false → whole_lines ≡ true → (words || whole_lines) ≡ true
by-lines words whole_lines w l = rw (w, l) refl
