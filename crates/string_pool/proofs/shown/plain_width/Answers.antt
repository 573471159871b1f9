use Rattle.std.proofs.Common.{sym, ◌∙◌}
use Rattle.string_pool.proofs.ByteTexts.{BeginsEscape-none, BeginsEscape-nothing, IsPlain-some, ascii-first}
use Rattle.string_pool.proofs.shown.plain_width.Goals as goal

pub returns-in-Some-default : goal.returns-in-Some-default
returns-in-Some-default c =
    IsPlain-some c.args.left.now c.in_ok-byte.field-0.now c.in-Some-default.field-0-0 c.decode.result.1 c.in_ok-byte.ensures.value (sym c.is_ascii.ensures ∙ c.if-is_ascii.false)
    (sym c.decode.ensures.char ∙ c.in-Some-default.is-0) c.decode.ensures.size

pub returns-in-None-default : goal.returns-in-None-default
returns-in-None-default c =
    BeginsEscape-none c.args.left.now c.in_ok-byte.field-0.now c.in_ok-byte.ensures.value (sym c.is_ascii.ensures ∙ c.if-is_ascii.false)
    (sym c.decode.ensures.char ∙ c.in-None-default.is-0)

pub returns-in_err-byte : goal.returns-in_err-byte
returns-in_err-byte c = rw c.from_residual.ensures (BeginsEscape-nothing c.args.left.now c.in_err-byte.ensures.value)

pub returns-then-is_ascii : goal.returns-then-is_ascii
returns-then-is_ascii c =
    rw c.then_some.ensures
    (ascii-first c.args.left.now c.in_ok-byte.field-0.now c.ascii_width.result c.is_escaped.result c.in_ok-byte.ensures.value (sym c.is_ascii.ensures ∙ c.if-is_ascii.true)
    (rw c.from.ensures at c.is_escaped.ensures) c.ascii_width.ensures.plain c.ascii_width.ensures.some)
