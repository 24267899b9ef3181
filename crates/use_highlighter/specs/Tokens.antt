-- Tokens, and which token a match is.
use Rattle.std.specs.Prelude.{ℕ, List, [], ◌++◌, chars, codes, flat_map, is_some, map}
use Rattle.std.specs.List.{position_or_len}
use Rattle.regex_meaning.specs.Tree.{Tree}
use Rattle.regex_meaning.specs.FlagLettersAndEscaping.{flags_from_letters}
use Rattle.regex_meaning.specs.MatchGroupsByNumberAndName.{Answer, named_group}
use Rattle.regex_meaning.specs.EcmaGrammarWithAnnexB.{ParsesEcmaScript}
use Rattle.use_highlighter.specs.declared.tokens.Token.{Token}

-- The names of the tokens, in order.
abbrev pub names_of : List Token → List (List ℕ)
names_of tokens = map (λ t. t.name.now) tokens

-- The token's pattern is valid on its own: the grammar has a tree for it.
abbrev pub HasValidPattern : Token → Type 0
HasValidPattern t = (tree : Tree) × ParsesEcmaScript (flags_from_letters []) (chars t.pattern.now) tree

-- A token as an alternative of the joined pattern: `|`, and a group with the token's name.
abbrev pub alternative_for_token : Token → List ℕ
alternative_for_token t = codes "|(?<" ++ (t.name.now ++ (codes ">" ++ (t.pattern.now ++ codes ")")))

-- The joined pattern, which has each token as an alternative, in order. It begins with a class that
-- matches nothing.
abbrev pub any_of : List Token → List ℕ
any_of tokens = codes "[]" ++ flat_map alternative_for_token tokens

-- The index of the first of these names whose group matched.
abbrev pub token_of : (names : List (List ℕ)) → Answer → ℕ
token_of names m = position_or_len (λ name. is_some (named_group m name)) names
