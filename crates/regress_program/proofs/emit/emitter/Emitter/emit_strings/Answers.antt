use Rattle.std.proofs.Common.{◌≡◌, ◌+◌, ◌-◌, ◌<◌, [], ◌∙◌, ap, sym, arith, length, drop, get_or}
use borrow.Author.Tests.{eqb-true}
use Rattle.std.proofs.lemmas.List.{nil_from_length}
use Rattle.regex_meaning.specs.Tree.{string_set}
use Rattle.regress_program.specs.CompilationOfTreesAsFunction.{string_code, strings_code, strings_size}
use Rattle.regress_program.specs.EmitterStateAndAppendedCode.{emitter_state, with_insns_appended, with_code, strings_as_code_points}
use Rattle.regress_program.proofs.ByteAndStringCodeLemmas.{code_points-next, length-code_points, size_from, last_code, strings_step, strings_target, with_code-string_set, ne_zero}
use Rattle.regress_program.proofs.emit.emitter.Emitter.emit_strings.Goals as goal

pub returns-then-is_empty : goal.returns-then-is_empty
returns-then-is_empty c =
    let none : c.args.strings.now ≡ [] = nil_from_length c.args.strings.now (eqb-true _ _ (sym c.if-is_empty.ensures)) in
    rw (none, with_code-string_set c.args.mode.unicode c.args.mode.behind c.args.icase [] (emitter_state c.args.self.now)) c.append_insn.ensures

pub overflow_cast-secondary : goal.overflow_cast-secondary
overflow_cast-secondary c =
    let size = size_from c.args.strings.now c.loop-at.at c.index-strings-at.result (omega arith) c.index-strings-at.is in
    omega (arith, size, c.loop-at.invariant.target, c.next.ensures, c.insn_count_of_strings.ensures, c.requires, c.len.ensures, c.index-strings-at.result.ok.0)

pub overflow_add-secondary : goal.overflow_add-secondary
overflow_add-secondary c =
    let size = size_from c.args.strings.now c.loop-at.at c.index-strings-at.result (omega arith) c.index-strings-at.is in
    omega (arith, size, c.loop-at.invariant.target, c.next.ensures, c.next-in-loop-at.ensures, c.insn_count_of_strings.ensures, c.requires, c.len.ensures, c.index-strings-at.result.ok.0)

pub overflow_add-secondary-in-loop-at : goal.overflow_add-secondary-in-loop-at
overflow_add-secondary-in-loop-at c =
    let size = size_from c.args.strings.now c.loop-at.at c.index-strings-at.result (omega arith) c.index-strings-at.is in
    omega (arith, size, c.loop-at.invariant.target, c.next.ensures, c.next-in-loop-at.ensures, c.insn_count_of_strings.ensures, c.requires, c.len.ensures, c.index-strings-at.result.ok.0)

pub loop-at-preserved : goal.loop-at-preserved
loop-at-preserved c =
    let strings = c.args.strings.now in
    let at = c.loop-at.at in
    let s = c.index-strings-at.result in
    let u = c.args.mode.unicode in
    let d = c.args.mode.behind in
    let more : at + 1 < length strings = omega arith in
    let rest = drop (at + 1) (strings_as_code_points strings) in
    let some : 0 < length rest = omega (arith, length-code_points strings (at + 1)) in
    let size = size_from strings at s more c.index-strings-at.is in
    let second = c.next-in-loop-at.result + c.len.result + 2 in
    let target = c.next.result + c.insn_count_of_strings.result in
    let s0 = emitter_state c.loop-at.self in
    let s1 = emitter_state c.append_insn-in-loop-at.new.self in
    let s2 = emitter_state c.emit_string.new.self in
    let s3 = emitter_state c.append_insn-in-loop-at-2.new.self in
    let es : second ≡ length s0.insns + length s.items + 2 = omega (arith, c.next-in-loop-at.ensures, c.len.ensures, s.ok.0) in
    let et : target ≡ second + strings_size rest = omega (arith, es, size, c.loop-at.invariant.target) in
    let e2 : s2 ≡ with_insns_appended (string_code u c.args.icase d s.items) s1 = rw (← c.deref.ensures.value) c.in_ok-emit_string.ensures in
    record {
      target = omega (arith, et, strings_target u c.args.icase d s.items s0 s1 s2 s3 second target es c.in_ok-append_insn.ensures e2 c.in_ok-append_insn-2.ensures);
      code = strings_step u c.args.icase d s.items rest s0 s1 s2 s3 second target some es et c.in_ok-append_insn.ensures e2 c.in_ok-append_insn-2.ensures
          ∙ sym (ap (λ xs. with_insns_appended (strings_code u c.args.icase d xs (length s0.insns)) s0) (code_points-next strings at s (omega arith) c.index-strings-at.is))
          ∙ c.loop-at.invariant.code;
    }

pub returns : goal.returns
returns c =
    let strings = c.args.strings.now in
    let s0 = emitter_state c.loop-at.self in
    let u = c.args.mode.unicode in
    let d = c.args.mode.behind in
    let last : c.loop-at.at + 1 ≡ length strings = omega (arith, ne_zero strings c.if-is_empty.ensures) in
    let at_last : c.loop-at.at ≡ length strings - 1 = omega arith in
    let here : c.index-strings-last.result ≡ get_or strings c.loop-at.at c.index-strings-last.result = rw at_last c.index-strings-last.is in
    let code : with_insns_appended (string_code u c.args.icase d c.index-strings-last.result.items) s0 ≡ with_code u d (string_set (strings_as_code_points strings) c.args.icase) (emitter_state c.args.self.now) =
    sym (ap (λ xs. with_insns_appended xs s0) (last_code u c.args.icase d strings c.loop-at.at (length s0.insns) c.index-strings-last.result last here))
    ∙ c.loop-at.invariant.code ∙ sym (with_code-string_set u d c.args.icase (strings_as_code_points strings) (emitter_state c.args.self.now)) in
    rw (← code, ← c.deref-2.ensures.value) c.emit_string-2.ensures
