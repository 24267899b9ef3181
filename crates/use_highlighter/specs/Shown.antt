-- How the pieces of a text are shown.
use Rattle.std.specs.Prelude.{ℕ, ◌+◌, ◌%◌, List, [], ◌∷◌, ◌++◌, Option, Some, None, chars, codes, eqb, flat_map, slice_get, unwrap_or, if◌then◌else◌}
use Rattle.std.specs.Char.{encode_utf8}
use Rattle.use_highlighter.specs.Pieces.{part_of}
use Rattle.use_highlighter.specs.declared.pieces.Piece.{Piece}
use Rattle.use_highlighter.specs.declared.show.Style.{Style}
use Rattle.use_highlighter.specs.declared.show.Style.TheVariants.{Ansi, Html}

-- A character as HTML.
abbrev pub escaped_char : ℕ → List ℕ
escaped_char c =
    if eqb c 38 then codes "&amp;"
    else if eqb c 60 then codes "&lt;"
    else if eqb c 62 then codes "&gt;"
    else if eqb c 34 then codes "&quot;"
    else encode_utf8 c

-- A text as HTML.
unfoldable pub escaped : (text : List ℕ) → List ℕ
escaped text = flat_map escaped_char (chars text)

-- A text in this style.
abbrev pub text_in_style : Style → (text : List ℕ) → List ℕ
text_in_style Ansi text = text
text_in_style Html text = escaped text

-- The name with this index. Empty if there is none.
abbrev pub name_at : (names : List (List ℕ)) → ℕ → List ℕ
name_at names number = unwrap_or (slice_get names number) []

-- The escape sequence that begins the colour of a token. There are six colours, which repeat.
abbrev pub colour_of : (number : ℕ) → List ℕ
colour_of number = 27 ∷ codes "[3" ++ (encode_utf8 (49 + number % 6) ++ codes "m")

-- The tag that begins a token. Its class is the token's name.
abbrev pub span_of : (name : List ℕ) → List ℕ
span_of name = codes "<span class=\"" ++ (escaped name ++ codes "\">")

-- The text that begins a token.
abbrev pub text_that_begins_token : Style → (names : List (List ℕ)) → (number : ℕ) → List ℕ
text_that_begins_token Ansi names number = colour_of number
text_that_begins_token Html names number = span_of (name_at names number)

-- The text that ends a token.
abbrev pub text_that_ends_token : Style → List ℕ
text_that_ends_token Ansi = 27 ∷ codes "[m"
text_that_ends_token Html = codes "</span>"

-- A part of a text, which may be a token. If it is empty, nothing is shown.
abbrev pub part_in_style : Style → (names : List (List ℕ)) → Option ℕ → (part : List ℕ) → List ℕ
part_in_style style names token [] = []
part_in_style style names None part = text_in_style style part
part_in_style style names (Some number) part =
    text_that_begins_token style names number ++ (text_in_style style part ++ text_that_ends_token style)

-- What is shown of a piece of the text, in a style.
abbrev pub shown : Style → (names : List (List ℕ)) → (text : List ℕ) → Piece → List ℕ
shown style names text p = part_in_style style names p.token (part_of text p)
