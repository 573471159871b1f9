use Rattle.std.proofs.Common.{ap}
use Rattle.std.proofs.lemmas.Str.{IsUtf8-string_bytes}
use Rattle.names.proofs.NameSteps.{is_text, is_paired_text, is_no_text}
use Rattle.names.proofs.text.text_of_bytes.Goals as goal

pub returns-in-Ok : goal.returns-in-Ok
returns-in-Ok c = is_text _ _ c.in-Ok.ensures.cases.1 c.in-Ok.ensures.cases.0

pub returns-in-Ok-from_utf8 : goal.returns-in-Ok-from_utf8
returns-in-Ok-from_utf8 c =
    is_paired_text c.args.bytes.now c.in_ok-paired.paired.items _ c.in_default.ensures.cases.0 c.in_ok-paired.ensures
    (IsUtf8-string_bytes c.in-Ok-from_utf8.text) (ap (λ bytes. bytes.items) c.in-Ok-from_utf8.ensures.ok)

pub returns : goal.returns
returns c =
    is_no_text c.args.bytes.now c.in_ok-paired.paired.items c.in_default.ensures.cases.0 c.in_ok-paired.ensures c.in-Err.ensures.succeeds
