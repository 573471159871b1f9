-- A request whose layers are not read: its command stops so.
use Rattle.std.proofs.Common.{◌≡◌, ◌≢◌, ℕ, Bool, List, Option, Some, None, Ok, Err, refl, subst, inl, inr}
use Rattle.std.specs.Prelude.{◌⊎◌, IfSome, option_map}
use Rattle.resource_tool.specs.command_base.declared.fault.ToolFault.TheVariants.{OutOfMemory}
use Rattle.resource_tool.specs.command_base.declared.side.Side.TheVariants.{Old, New}
use Rattle.resource_tool.specs.command_base.declared.stop.Stop.{Stop}
use Rattle.resource_tool.specs.command_base.DeviceFiles.{device_files, asked_files}
use Rattle.resource_tool.specs.command_base.FileWords.{texts_of}
use Rattle.resource_tool.specs.command_base.Inputs.{Places, layers_of, layers_on_side}
use Rattle.resource_tool.specs.command_base.StackBytes.{LayerBytes}
use Rattle.resource_tool.specs.command_base.Stop.{StopOf, stop_of, tool}
use Rattle.resource_tool.specs.BoxFiles.{asked_box_files, box_files}
use Rattle.resource_tool.specs.Check.{check_files}
use Rattle.resource_tool.specs.Survey.{survey_files}
use Rattle.resource_tool.specs.Show.{show_files}
use Rattle.resource_tool.specs.Diff.{diff_files}
use Rattle.restool.specs.declared.request.Request.{Request}
use Rattle.restool.specs.declared.request.Request.TheVariants as asks
use Rattle.restool.specs.Left.{LayerWordsOf, StopsAt}
use Rattle.restool.specs.Request.{Answers, layer_words}

-- ---- files of which the layers are the first

module _ (places : Places) (layers : List ℕ) (stop : StopOf) (at : layers_of places layers ≡ Err stop) where
  device-stops : (device : List ℕ) → device_files places layers device ≡ Err stop
  unfolding device_files
  device-stops device = rw at refl

  asked-stops : (device : List ℕ) (words : List (List ℕ)) → asked_files places layers device words ≡ Err stop
  unfolding asked_files
  asked-stops device words = rw (device-stops device) refl

  survey-stops : (members : Option (List ℕ)) → survey_files places layers members ≡ Err stop
  unfolding survey_files
  survey-stops members = rw at refl

  show-stops : (certificate : List ℕ) → show_files places layers certificate ≡ Err stop
  unfolding show_files
  show-stops certificate = rw at refl

  box-stops : (members : List ℕ) → box_files places layers members ≡ Err stop
  unfolding box_files
  box-stops members = rw at refl

  asked-box-stops : (members : List ℕ) (words : List (List ℕ)) → asked_box_files places layers members words ≡ Err stop
  unfolding asked_box_files
  asked-box-stops members words = rw (box-stops members) refl

  check-stops : (members certificate : List ℕ) (words : List (List ℕ)) → check_files places layers members certificate words ≡ Err stop
  unfolding check_files
  check-stops members certificate words = rw (box-stops members) refl

diff-stops-old : (places : Places) (old new members : List ℕ) (words : List (List ℕ)) (stop : StopOf) → layers_on_side Old places old ≡ Err stop
    → diff_files places old new members words ≡ Err stop
unfolding diff_files
diff-stops-old places old new members words stop at = rw at refl

diff-stops-new : (places : Places) (old new members : List ℕ) (words : List (List ℕ)) (stop : StopOf) (read : List LayerBytes) → layers_on_side Old places old ≡ Ok read
    → layers_on_side New places new ≡ Err stop → diff_files places old new members words ≡ Err stop
unfolding diff_files
diff-stops-new places old new members words stop read first at = rw first (rw at refl)

diff-stops : (places : Places) (old new members : List ℕ) (words : List (List ℕ)) (stop : StopOf)
    → (layers_on_side Old places old ≡ Err stop) ⊎ ((read : List LayerBytes) × (layers_on_side Old places old ≡ Ok read) × (layers_on_side New places new ≡ Err stop))
    → diff_files places old new members words ≡ Err stop
diff-stops places old new members words stop (inl at) = diff-stops-old places old new members words stop at
diff-stops places old new members words stop (inr p) = diff-stops-new places old new members words stop p.0 p.1 p.2

-- ---- the answer

module _ {W V : Type 0} (is_terminal : Bool) (contents : W → Option (List ℕ)) (says : V → Option (List ℕ)) (old : W) (before : V) (stop : Stop) where
  answers : (places : Places) (request : Request) → (stop_of stop ≢ tool OutOfMemory → StopsAt places (layer_words request) (stop_of stop))
      → Answers is_terminal contents says old old before before places request (Err stop)
  answers places (asks.Rows it) at = λ other. absurd (at other)
  answers places (asks.Dump it) at = λ other. absurd (at other)
  answers places (asks.Map it) at = λ other. absurd (at other)
  answers places (asks.Ids it) at = λ other. inl (at other)
  answers places (asks.Survey it) at = λ other. inl (survey-stops places it.layers.now (stop_of stop) (at other) (option_map (λ path. path.now) it.box_path))
  answers places (asks.Show it) at = λ other. inl (show-stops places it.layers.now (stop_of stop) (at other) it.certificate.now)
  answers places (asks.Query it) at = λ other. inl (rw (asked-stops places it.layers.now (stop_of stop) (at other) it.device.now (texts_of it.words)) refl)
  answers places (asks.Explain it) at = λ other. inl (rw (device-stops places it.layers.now (stop_of stop) (at other) it.device.now) refl)
  answers places (asks.Bag it) at = λ other. inl (rw (device-stops places it.layers.now (stop_of stop) (at other) it.device.now) refl)
  answers places (asks.Attr it) at = λ other. inl (rw (asked-stops places it.layers.now (stop_of stop) (at other) it.device.now (texts_of it.styles)) refl)
  answers places (asks.Make it) at = λ other. inl (rw (asked-box-stops places it.layers.now (stop_of stop) (at other) it.box_path.now (texts_of it.goals)) refl)
  answers places (asks.Check it) at = λ other. inl (rw (check-stops places it.layers.now (stop_of stop) (at other) it.box_path.now it.certificate.now (texts_of it.goals)) refl)
  answers places (asks.Diff it) at = λ other. inl (rw (diff-stops places it.old.now it.new.now it.box_path.now (texts_of it.words) (stop_of stop) (at other)) refl)
  answers places (asks.Values it) at = λ other. inl (rw (asked-box-stops places it.layers.now (stop_of stop) (at other) it.box_path.now (texts_of it.words)) refl)
  answers places (asks.Unused it) at = λ other. inl (rw (asked-box-stops places it.layers.now (stop_of stop) (at other) it.box_path.now (texts_of it.words)) refl)
  answers places (asks.Device it) at = λ other. absurd (at other)

  pub answers-unread : (known : Option Places) (request : Request) (words : LayerWordsOf) → words ≡ layer_words request
      → IfSome known (λ places. stop_of stop ≢ tool OutOfMemory → StopsAt places words (stop_of stop))
      → IfSome known (λ places. Answers is_terminal contents says old old before before places request (Err stop))
  answers-unread None request words is at = tt
  answers-unread (Some places) request words is at =
      answers places request (subst (λ (w : LayerWordsOf). stop_of stop ≢ tool OutOfMemory → StopsAt places w (stop_of stop)) is at)
