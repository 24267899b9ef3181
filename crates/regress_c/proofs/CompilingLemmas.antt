-- A compile error becomes the refusal that its cause requires.
use Rattle.std.proofs.Common.{◌≡◌, ◌⊎◌, inl, inr, refl, sym, subst, Err}
use Rattle.regex_parser.specs.SyntaxDialects.{spec_syntax_of}
use Rattle.regex_parser.specs.declared.parse.ParseError.TheVariants as parse
use Rattle.regress_program.specs.declared.emit.EmitError.TheVariants as emit
use Rattle.regex_meaning.specs.FlagLettersAndEscaping.{flags_from_letters}
use Rattle.regress_match.specs.CompileErrors.{IsPatternRefusedWithSyntax}
use Rattle.regress_match.specs.declared.api.compile_and_replace_errors.Error.{Error}
use Rattle.regress_match.specs.declared.api.compile_and_replace_errors.Error.TheVariants as error
use Rattle.regress_c.specs.Codes.{refusal_of_compile_error}
use Rattle.regress_c.specs.Compiling.{IsCompileResult, GivenPattern, HasValidTextAndFlags, IsPatternWithinBounds, RefusesPattern}
use Rattle.regress_c.specs.declared.compiling.Bounds.{Bounds}
use Rattle.regress_c.specs.declared.refusal.Refusal.{Refusal}
use Rattle.regress_c.specs.declared.refusal.Refusal.TheVariants.{Empty, Full, NotUtf8, NotBoundary, ShortBuffer, Memory, StepLimit, Syntax, TooManyGroups, TooManyLoops, TooManyInstructions}
use Rattle.regress_c.specs.declared.refusal.Refusal.TheVariants.{UnknownFlag, TooLong, TooDeep, NoGroup, NotOpen, NotCounted, Unbounded, WorkLimit, UnknownSyntax}

-- A refusal of compiling is an allocation failure or an error in the pattern.
abbrev pub IsOfCompiling : GivenPattern → Refusal → Type 0
IsOfCompiling g r = (r ≡ Memory) ⊎ RefusesPattern g.syntax (flags_from_letters g.flags) g.characters r

of-compiling : (g : GivenPattern) (e : Error) → IsPatternRefusedWithSyntax (spec_syntax_of g.syntax) (flags_from_letters g.flags) g.characters e → IsOfCompiling g (refusal_of_compile_error e)
of-compiling g error.Memory refuses = inl refl
of-compiling g (error.Parse (parse.Syntax d)) refuses = inr refuses.none
of-compiling g (error.Parse parse.TooManyGroups) refuses = absurd refuses
of-compiling g (error.Parse parse.Memory) refuses = absurd refuses
of-compiling g (error.Emit emit.TooManyGroups) refuses = inr refuses
of-compiling g (error.Emit emit.TooManyLoops) refuses = inr refuses
of-compiling g (error.Emit emit.TooManyInstructions) refuses = inr refuses
of-compiling g (error.Emit emit.Memory) refuses = absurd refuses
of-compiling g (error.Emit emit.NotWellFormed) refuses = absurd refuses
of-compiling g (error.Emit emit.BytesInUnits) refuses = absurd refuses

the-pattern : {A B : Type 0} → A ⊎ B → (A → ⊥) → B
the-pattern (inl a) f = absurd (f a)
the-pattern (inr b) f = b

module _ (g : GivenPattern) (bounds : Bounds) (readable : HasValidTextAndFlags g) (within : IsPatternWithinBounds bounds g.characters) where
  refuses : (r : Refusal) → IsOfCompiling g r → IsCompileResult g bounds (Err r)
  refuses Memory h = readable
  refuses Syntax h = (readable, within, the-pattern h (λ e. cc))
  refuses TooManyGroups h = (readable, within, the-pattern h (λ e. cc))
  refuses TooManyLoops h = (readable, within, the-pattern h (λ e. cc))
  refuses TooManyInstructions h = (readable, within, the-pattern h (λ e. cc))
  refuses _ h = absurd (the-pattern h (λ e. cc))

  pub error-refuses : (e : Error) (r : Refusal) → IsPatternRefusedWithSyntax (spec_syntax_of g.syntax) (flags_from_letters g.flags) g.characters e → r ≡ refusal_of_compile_error e → IsCompileResult g bounds (Err r)
  error-refuses e r can is = refuses r (subst (IsOfCompiling g) (sym is) (of-compiling g e can))
