use Rattle.std.proofs.Common.{◌≡◌, ℕ, Bool, true, false, List, ◌++◌, Option, Some, None, Result, Ok, Err, sym, ap, ◌∙◌}
use Rattle.std.specs.Prelude.{OnOk, is_ok, IfSome}
use Rattle.std.specs.Io.KnownBytes.{Appends}
use Rattle.std.specs.Option.{option_map}
use Rattle.restool.specs.Ending.{IsTold, hint_line}
use Rattle.restool.specs.WordsFault.{words_line}
use Rattle.restool.proofs.words_fault.WordsFault.report.Goals as goal

of_ok : {X E : Type 0} (result : Result X E) (P : Type 0) → is_ok result ≡ true → OnOk result P → P
of_ok (Ok x) P was_ok holds = holds
of_ok (Err e) P was_ok holds = absurd cc

told_behind : {V : Type 0} (says : V → Option (List ℕ)) (is_terminal : Bool) (before after : V) (hint : Option (List ℕ)) → (is_terminal ≡ false → hint ≡ None) → (line : Option (List ℕ))
    → IfSome line (λ text. Appends (says before) (says after) (text ++ hint_line hint)) → IfSome line (IsTold says is_terminal before after)
told_behind says is_terminal before after hint silent None told = told
told_behind says is_terminal before after hint silent (Some text) told = (hint, silent, told)

pub returns-clause-line : goal.returns-clause-line
returns-clause-line g c written =
    told_behind g.E.Write.contents c.args.is_terminal c.args.errors.now c.write.new.errors (option_map (λ hint. hint.now) c.where_terminal-hint.result)
    (λ off. ap (option_map (λ hint. hint.now)) (c.where_terminal-hint.ensures off)) (words_line c.args.self.now)
    (of_ok c.write.result _ (sym c.is_ok-was_written.ensures.value ∙ written) c.write.ensures.line)
