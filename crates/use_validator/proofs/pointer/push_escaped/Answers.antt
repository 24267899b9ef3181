use Rattle.std.proofs.Common.{◌≡◌, ◌∙◌, ap, arith}
use Rattle.std.specs.Char.{encode_utf8}
use Rattle.use_validator.specs.Pointer.{escape}
use Rattle.use_validator.proofs.Escapes.{escape-other, escape-slash, escape-tilde, wrote}
use Rattle.use_validator.proofs.pointer.push_escaped.Goals as goal

pub returns-in-126 : goal.returns-in-126
returns-in-126 c = wrote _ _ _ _ _ c.push_str.ensures.bytes (ap (λ x. escape (encode_utf8 x)) c.in-126.is ∙ escape-tilde)

pub returns-in-47 : goal.returns-in-47
returns-in-47 c = wrote _ _ _ _ _ c.push_str-in-47.ensures.bytes (ap (λ x. escape (encode_utf8 x)) c.in-47.is ∙ escape-slash)

pub returns-in_default : goal.returns-in_default
returns-in_default c = wrote _ _ _ _ _ c.push.ensures.bytes (escape-other c.args.c (λ e. omega arith) (λ e. omega arith))
