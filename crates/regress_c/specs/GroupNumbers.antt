-- The number of a group by its name.
use Rattle.std.specs.Prelude.{ℕ, ◌+◌, List, [], ◌∷◌, Option, Some, None, bytes_eq, option_map, slice_get}
use Rattle.regex_meaning.specs.MatchGroupsByNumberAndName.{group_names_by_id, ids_where}
use Rattle.regress_match.specs.ProgramTreesAndAnswers.{tree_for_byte_units}
use Rattle.regress_match.specs.declared.api.regex.Regex.{Regex}
use Rattle.regress_c.specs.Codes.{code_of_refusal, done}
use Rattle.regress_c.specs.declared.refusal.Refusal.TheVariants.{Empty, NoGroup}
use Rattle.regress_c.specs.declared.reply.Reply.{Reply}

-- The index of the first name in the list that is equal to `name`.
abbrev pub index_of_first_name : (name : List ℕ) → (names : List (List ℕ)) → Option ℕ
index_of_first_name name names = slice_get (ids_where (bytes_eq name) 0 names) 0

-- The number of the group with this name, counted from 1. `None` for the empty name, which marks
-- groups without a name.
abbrev pub number_of_name : Regex → (name : List ℕ) → Option ℕ
number_of_name re [] = None
number_of_name re (c ∷ name) =
    option_map (λ id. id + 1) (index_of_first_name (c ∷ name) (group_names_by_id (tree_for_byte_units re).root))

-- The reply with a number. If there is none, the code is `NoGroup`.
abbrev pub reply_for_number_if_any : Option ℕ → Reply
reply_for_number_if_any None = record { code = code_of_refusal NoGroup; count = 0 }
reply_for_number_if_any (Some number) = record { code = done; count = number }

-- The reply with the number of a group. The call is refused if the handle is empty.
abbrev pub group_number_reply_of_handle : (held : Option Regex) → (name : List ℕ) → Reply
group_number_reply_of_handle None name = record { code = code_of_refusal Empty; count = 0 }
group_number_reply_of_handle (Some re) name = reply_for_number_if_any (number_of_name re name)
