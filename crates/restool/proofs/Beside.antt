-- What came of an answer, in two steps: lines were said beside it, and then what was kept back of it was written.
use Rattle.std.proofs.Common.{◌≡◌, ◌≢◌, ℕ, Bool, List, Option, Some, None, Result, Ok, Err, refl, sym, ap, subst, ◌∙◌}
use Rattle.std.specs.Prelude.{IsOk, IfOk, IfErr, IfSome, OnOk}
use Rattle.std.specs.Io.KnownBytes.{Appends}
use Rattle.resource_tool.specs.command_base.answer_text.OnLine.{on_line}
use Rattle.resource_tool.specs.command_base.declared.fault.ToolFault.TheVariants.{OutOfMemory, Write}
use Rattle.resource_tool.specs.command_base.declared.status.Status.{Status}
use Rattle.resource_tool.specs.command_base.declared.stop.Stop.{Stop}
use Rattle.resource_tool.specs.command_base.CarriesOut.{IsKept}
use Rattle.resource_tool.specs.command_base.Inputs.{Places}
use Rattle.resource_tool.specs.command_base.Stop.{stop_of, tool}
use Rattle.restool.specs.declared.request.Request.{Request}
use Rattle.restool.specs.declared.request.Request.TheVariants as asks
use Rattle.restool.specs.Left.{LayerWordsOf, StopsAt, left_lines}
use Rattle.restool.specs.Request.{ErrorsGet, layer_words}
use Rattle.restool.specs.Run.{CarriesOutRequest}
use Rattle.restool.proofs.Unread.{answers-unread}

pub same-twice : (answered told outcome : Result Status Stop) → IfOk told (λ status. answered ≡ Ok status) → IfOk outcome (λ status. told ≡ Ok status)
    → IfOk outcome (λ status. answered ≡ Ok status)
same-twice answered (Ok t) (Ok s) first second = first ∙ second
same-twice answered (Err e) (Ok s) first second = absurd cc
same-twice answered told (Err e) first second = tt

pub stop-twice : (answered told outcome : Result Status Stop) → IfErr answered (λ stop. told ≡ Err stop) → IfErr told (λ stop. outcome ≡ Err stop)
    → IfErr answered (λ stop. outcome ≡ Err stop)
stop-twice (Ok s) told outcome first second = tt
stop-twice (Err e) told outcome first second = rw first at second

pub failed-twice : (answered told outcome : Result Status Stop) → (IsOk answered → IfErr told (λ stop. stop_of stop ≡ tool Write)) → IfErr told (λ stop. outcome ≡ Err stop)
    → (IsOk told → IfErr outcome (λ stop. stop_of stop ≡ tool Write)) → IsOk answered → IfErr outcome (λ stop. stop_of stop ≡ tool Write)
failed-twice answered (Ok t) outcome first stops second = λ ok. second refl
failed-twice answered (Err e) outcome first stops second = λ ok. rw stops (first ok)

pub stopped-twice : (answered told : Result Status Stop) (P : Stop → Type 0) → IfErr answered (λ stop. told ≡ Err stop) → IfErr told P → IfErr answered P
stopped-twice (Ok s) told P first second = tt
stopped-twice (Err e) told P first second = rw first at second

-- ---- what was said

pub kept-behind : {V : Type 0} (before after : V) (told outcome : Result Status Stop) → IfErr told (λ stop. outcome ≡ Err stop)
    → (IsOk told → IfErr outcome (λ stop. stop_of stop ≡ tool Write)) → IsKept before after told → IsKept before after outcome
kept-behind before after (Ok t) (Ok s) stops failed kept = tt
kept-behind before after (Ok t) (Err e) stops failed kept = λ other. absurd (other (failed refl))
kept-behind before after (Err f) outcome stops failed kept = rw stops kept

said-behind : (told outcome : Result Status Stop) (P : Type 0) → IfOk outcome (λ status. told ≡ Ok status) → OnOk told P → OnOk outcome P
said-behind told (Ok s) P same said = rw same at said
said-behind told (Err e) P same said = tt

pub lines-behind : {V : Type 0} (says : V → Option (List ℕ)) (known : Option Places) (before after : V) (told outcome : Result Status Stop) (lines given : List ℕ) (words seen : LayerWordsOf)
    → IfOk outcome (λ status. told ≡ Ok status) → IfSome known (λ places. lines ≡ left_lines places words) → words ≡ seen → given ≡ lines
    → OnOk told (Appends (says before) (says after) (on_line given))
    → IfSome known (λ places. OnOk outcome (Appends (says before) (says after) (on_line (left_lines places seen))))
lines-behind says None before after told outcome lines given words seen same are is lent said = tt
lines-behind says (Some places) before after told outcome lines given words seen same are is lent said =
    said-behind told outcome (Appends (says before) (says after) (on_line (left_lines places seen))) same
    (subst (λ (t : List ℕ). OnOk told (Appends (says before) (says after) (on_line t))) (lent ∙ are ∙ ap (λ (w : LayerWordsOf). left_lines places w) is) said)

-- ---- layers that are not read

module _ {W V : Type 0} (is_terminal : Bool) (contents : W → Option (List ℕ)) (says : V → Option (List ℕ)) (old : W) (before : V) (stop : Stop) where
  shows : (request : Request) → ErrorsGet is_terminal before before request (Err stop)
  shows (asks.Rows it) = refl
  shows (asks.Dump it) = refl
  shows (asks.Map it) = (λ _. refl, λ _. refl)
  shows (asks.Ids it) = refl
  shows (asks.Survey it) = refl
  shows (asks.Show it) = refl
  shows (asks.Query it) = refl
  shows (asks.Explain it) = refl
  shows (asks.Bag it) = refl
  shows (asks.Attr it) = refl
  shows (asks.Make it) = λ _. (λ _. refl, λ _. refl)
  shows (asks.Check it) = (λ _. refl, λ _. refl)
  shows (asks.Diff it) = refl
  shows (asks.Values it) = refl
  shows (asks.Unused it) = refl
  shows (asks.Device it) = refl

  abbrev stopped : Result Status Stop
  stopped = Err stop

  says-known : (known : Option Places) (words : LayerWordsOf) → IfSome known (λ places. OnOk stopped (Appends (says before) (says before) (on_line (left_lines places words))))
  says-known None words = tt
  says-known (Some places) words = tt

  pub carried-unread : (known : Option Places) (request : Request) (words : LayerWordsOf) (after : W) (outcome : Result Status Stop) → words ≡ layer_words request
      → IfSome known (λ places. stop_of stop ≢ tool OutOfMemory → StopsAt places words (stop_of stop)) → outcome ≡ Err stop → after ≡ old
      → CarriesOutRequest contents says known is_terminal (record { out = old; errors = before }) (record { out = after; errors = before }) request outcome
  carried-unread known request words after outcome is at ends same =
      let here : CarriesOutRequest contents says known is_terminal (record { out = old; errors = before }) (record { out = old; errors = before }) request (Err stop) = (
        before,
        answers-unread is_terminal contents says old before stop known request words is at,
        shows request,
        (says-known known (layer_words request), λ _. refl, λ _. refl),
        λ _. refl,
      ) in
      subst (λ (w : W). CarriesOutRequest contents says known is_terminal (record { out = old; errors = before }) (record { out = w; errors = before }) request outcome) (sym same)
      (subst (λ (r : Result Status Stop). CarriesOutRequest contents says known is_terminal (record { out = old; errors = before }) (record { out = old; errors = before }) request r) (sym ends) here)
