-- A pattern with an error of the parser or the emitter is refused with the public error for it.
use Rattle.std.proofs.Common.{◌≡◌, ◌≤◌, ◌^◌, false, length, refl, sym, ◌∙◌, subst, arith, IsTrue}
use Rattle.std.specs.Prelude.{ℕ, List, Result, Ok, Err, IfErr}
use Rattle.std.specs.Result.{IsErrAnd}
use Rattle.regex_parser.specs.declared.parse.ParseError.{ParseError}
use Rattle.regex_parser.specs.declared.parse.ParseError.TheVariants as parse
use Rattle.regress_program.specs.declared.emit.EmitError.{EmitError}
use Rattle.regress_program.specs.declared.emit.EmitError.TheVariants as emit
use Rattle.regex_meaning.specs.Tree.{Node, Tree, Flags, group_ids}
use Rattle.regex_meaning.specs.CompilationRelation.{tree_contains_byte_nodes}
use Rattle.regress_match.specs.declared.api.compile_and_replace_errors.Error.{Error}
use Rattle.regress_program.specs.CompileRefusals.{TreeHasByteCompileErrorCause}
use Rattle.regex_meaning.specs.Grammar.{ParsesBy}
use Rattle.regex_parser.specs.ParserInvariants.{OpensTooManyGroups, group_names_found_by_scan}
use Rattle.regex_parser.specs.SyntaxDialects.{spec_syntax_of}
use Rattle.regex_parser.specs.ParseErrors.{IsParseErrorIn}
use Rattle.regex_parser.specs.declared.syntax.Syntax.{Syntax}
use Rattle.regress_match.specs.CompileErrors.{error_of_parse, error_of_emit, IsPatternRefusedWithSyntax}
use Rattle.regress_match.proofs.GroupCountLemmas.{scan-counts-groups}

module _ (syntax : Syntax) (flags : Flags) (pattern : List ℕ) where
  pub parse-refuses : (e : ParseError) → IsParseErrorIn (spec_syntax_of syntax) flags pattern e
      → IsPatternRefusedWithSyntax (spec_syntax_of syntax) flags pattern (error_of_parse e)
  parse-refuses parse.Memory told = tt
  parse-refuses (parse.Syntax d) told = told
  parse-refuses parse.TooManyGroups many = many

  -- A tree with too many groups is that of a pattern that opens too many groups.
  opens-many : (tree : Tree) → ParsesBy (spec_syntax_of syntax) flags pattern tree → 2 ^ 16 ≤ length (group_ids tree.root) → OpensTooManyGroups pattern
  opens-many tree parsed many = let same : length (group_ids tree.root) ≡ length (group_names_found_by_scan pattern) = scan-counts-groups syntax flags pattern tree parsed in omega (arith, same, many)

  pub emit-refuses : (tree : Tree) → ParsesBy (spec_syntax_of syntax) flags pattern tree → (e : EmitError)
      → ¬ (e ≡ emit.NotWellFormed) → ¬ (e ≡ emit.BytesInUnits) → TreeHasByteCompileErrorCause e tree
      → IsPatternRefusedWithSyntax (spec_syntax_of syntax) flags pattern (error_of_emit e)
  emit-refuses tree parsed emit.NotWellFormed h k refused = h refl
  emit-refuses tree parsed emit.BytesInUnits h k refused = k refl
  emit-refuses tree parsed emit.TooManyGroups h k refused = opens-many tree parsed refused.1.groups
  emit-refuses tree parsed emit.TooManyLoops h k refused = record { tree = tree; parsed = parsed; refused = refused }
  emit-refuses tree parsed emit.TooManyInstructions h k refused = record { tree = tree; parsed = parsed; refused = refused }
  emit-refuses tree parsed emit.Memory h k refused = tt

-- If `e` is the only error that `P` admits, a result that fails with `P` has the property of `e`.
pub err-refused : {T : Type 0} (r : Result T Error) (e : Error) (P : Error → Type 0) (R : Error → Type 0)
    → ((x : Error) → P x → x ≡ e) → IsErrAnd r P → R e → IfErr r R
err-refused (Ok x) e P R same h can = absurd h
err-refused (Err x) e P R same h can = subst R (sym (same x h)) can

pub reads-not : (root : Node) → tree_contains_byte_nodes root ≡ false → IsTrue (tree_contains_byte_nodes root) → ⊥
reads-not root h k = cc (sym k ∙ h)
