-- What a command did with a writer that keeps bytes back, as what the writer behind it got.
use Rattle.std.proofs.Common.{◌≡◌, ◌≢◌, ℕ, Bool, true, false, List, [], ◌++◌, Option, Some, None, Result, Ok, Err, refl, sym, ap, subst, ◌∙◌, inl, inr}
use Rattle.std.specs.Prelude.{IsOk, IfOk, IfErr, IfSome, OnOk}
use Rattle.std.proofs.lemmas.List.{append-nil}
use Rattle.std.specs.Io.Buffered.{writer_buffer, writer_contents, writer_inner}
use Rattle.std.specs.Io.KnownBytes.{Appends, Keeps, append_known}
use Rattle.std.specs.declared.alloc.Global.{Global}
use Rattle.std.specs.declared.io.buffered.BufWriter.{BufWriter}
use Rattle.resource_tool.specs.command_base.declared.fault.ToolFault.{ToolFault}
use Rattle.resource_tool.specs.command_base.declared.fault.ToolFault.TheVariants.{Apk, Table, Layers, LayerApk, LayerTable, LayerMap, SideLayers, SideApk, SideTable, SideMap, Device, Box, Certificate, OutOfMemory, Write}
use Rattle.resource_tool.specs.command_base.declared.status.Status.{Status}
use Rattle.resource_tool.specs.command_base.declared.stop.Stop.{Stop}
use Rattle.resource_tool.specs.command_base.CarriesOut.{CarriesOut}
use Rattle.resource_tool.specs.command_base.DeviceFiles.{asked_files, device_files, paths_asked, paths_read}
use Rattle.resource_tool.specs.command_base.FileWords.{texts_of}
use Rattle.resource_tool.specs.command_base.Inputs.{Places, layers_of, table_of}
use Rattle.resource_tool.specs.command_base.Output.{Output, Prints, PrintsOneOf}
use Rattle.resource_tool.specs.command_base.Stop.{StopOf, stop_of, tool}
use Rattle.resource_tool.specs.TableOutput.{rows_printed, dump_printed, ids_output}
use Rattle.resource_tool.specs.MapOutput.{MapBytes, MapOutput, PrintsBoth, map_files, map_printed}
use Rattle.resource_tool.specs.DeviceOutput.{as_output}
use Rattle.resource_tool.specs.Opened.{OpenIdOf}
use Rattle.resource_tool.specs.QueryOutput.{OpenQueryOf, query_printed}
use Rattle.resource_tool.specs.ExplainOutput.{explain_printed}
use Rattle.resource_tool.specs.BagOutput.{bag_printed}
use Rattle.resource_tool.specs.AttrOutput.{OpenAttrOf, attr_printed}
use Rattle.resource_tool.specs.Answered.{PrintsBothOneOf}
use Rattle.resource_tool.specs.Make.{OpenMakeOf, MakesOpened, OnceShown}
use Rattle.resource_tool.specs.MakeOutput.{IsMakeAnswer}
use Rattle.resource_tool.specs.OmitOutput.{IsOmitOutput, LinesFirst}
use Rattle.resource_tool.specs.Check.{OpenCheckOf, check_files, paths_checked, telling_of}
use Rattle.resource_tool.specs.CheckOutput.{IsCheckAnswer}
use Rattle.resource_tool.specs.Survey.{SurveyBytes, survey_printed}
use Rattle.resource_tool.specs.Show.{ShowBytes, shown_output}
use Rattle.resource_tool.specs.Diff.{OpenDiffOf}
use Rattle.resource_tool.specs.DiffOutput.{IsDiffOutput}
use Rattle.resource_tool.specs.Unused.{IsUnusedOutput, OpenUnusedOf}
use Rattle.resource_tool.specs.ValuesOutput.{IsValuesOutput}
use Rattle.restool.specs.declared.request.Request.{Request}
use Rattle.restool.specs.declared.request.Request.TheVariants as asks
use Rattle.restool.specs.Request.{Answers, ErrorsGet}

-- Nothing is kept back before an answer. What was appended is not kept back any more, so it came to the writer behind.
appends-through : (before middle after : Option (List ℕ)) (text : List ℕ) → Appends (append_known before []) middle text → Keeps middle after → Appends before after text
appends-through None middle after text grown kept = tt
appends-through (Some xs) None after text grown kept = absurd grown
appends-through (Some xs) (Some ys) None text grown kept = absurd kept
appends-through (Some xs) (Some ys) (Some zs) text grown kept = kept ∙ grown ∙ ap (λ (l : List ℕ). l ++ text) (append-nil xs)

-- ---- a command that is carried out, and another that does what the first does

carries-done : {X : Type 0} (C D : X → Result Status ToolFault → Type 0) (meant : Result X StopOf) (status : Status)
    → ((read : X) → C read (Ok status) → D read (Ok status)) → CarriesOut C meant (Ok status) → CarriesOut D meant (Ok status)
carries-done C D meant status over p = (p.0, p.1, over p.0 p.2)

carries-stop : {X : Type 0} (C D : X → Result Status ToolFault → Type 0) (meant : Result X StopOf) (stop : Stop)
    → ((read : X) (fault : ToolFault) → C read (Err fault) → D read (Err fault)) → CarriesOut C meant (Err stop) → CarriesOut D meant (Err stop)
carries-stop C D meant stop over p = λ told. elim (p told) [
  | inl is ↦ inl is
  | inr q ↦ inr (q.0, q.1, q.2, q.3, over q.0 q.1 q.4)
]

carries-failed : {X : Type 0} (C D : X → Result Status ToolFault → Type 0) (meant : Result X StopOf) (status : Status) (stop : Stop)
    → stop_of stop ≡ tool Write → ((read : X) → C read (Ok status) → D read (Err Write)) → CarriesOut C meant (Ok status) → CarriesOut D meant (Err stop)
carries-failed C D meant status stop failed over p = λ told. inr (p.0, Write, p.1, failed, over p.0 p.2)

-- ---- an answer, over one writer and over another

module _ {W V E : Type 0} (is_terminal : Bool) (c : W → Option (List ℕ)) (d : V → Option (List ℕ)) (says : E → Option (List ℕ)) (old new : W) (before after : V) (quiet said : E) where
  -- what was appended to the one was appended to the other
  abbrev pub Passes : Type 0
  Passes = (text : List ℕ) → Appends (c old) (c new) text → Appends (d before) (d after) text

  -- where the one is as it was, so is the other
  abbrev pub Stays : Type 0
  Stays = new ≡ old → after ≡ before

  -- a command over the one writer, and over the other

  abbrev pub Before : {X : Type 0} → (X → Result Output ToolFault) → X → Result Status ToolFault → Type 0
  Before F read result = Prints c old new result (F read)

  abbrev pub Behind : {X : Type 0} → (X → Result Output ToolFault) → X → Result Status ToolFault → Type 0
  Behind F read result = Prints d before after result (F read)

  abbrev pub BeforeAny : {X Y : Type 0} → (X → Y → Output → Type 0) → (X → Result Y ToolFault) → X → Result Status ToolFault → Type 0
  BeforeAny Allows F read result = PrintsOneOf (Allows read) c old new result (F read)

  abbrev pub BehindAny : {X Y : Type 0} → (X → Y → Output → Type 0) → (X → Result Y ToolFault) → X → Result Status ToolFault → Type 0
  BehindAny Allows F read result = PrintsOneOf (Allows read) d before after result (F read)

  abbrev pub BeforeBoth : {X : Type 0} → (X → Result MapOutput ToolFault) → X → Result Status ToolFault → Type 0
  BeforeBoth F read result = PrintsBoth c says old new quiet said result (F read)

  abbrev pub BehindBoth : {X : Type 0} → (X → Result MapOutput ToolFault) → X → Result Status ToolFault → Type 0
  BehindBoth F read result = PrintsBoth d says before after quiet said result (F read)

  -- with what is told beside it, once errors are `shown`

  abbrev pub ToldBefore : {X Y : Type 0} → (X → Y → Output → List ℕ → Type 0) → (X → Result Y ToolFault) → X → Result Status ToolFault → E → Type 0
  ToldBefore Tells F read result shown = PrintsBothOneOf (Tells read) c says old new shown said result (F read)

  abbrev pub ToldBehind : {X Y : Type 0} → (X → Y → Output → List ℕ → Type 0) → (X → Result Y ToolFault) → X → Result Status ToolFault → E → Type 0
  ToldBehind Tells F read result shown = PrintsBothOneOf (Tells read) d says before after shown said result (F read)

  abbrev pub FirstBefore : {X Y : Type 0} → (X → Y → Output → List ℕ → Type 0) → (X → Result Y ToolFault) → X → E → Type 0
  FirstBefore Tells F read shown = LinesFirst (Tells read) says old new shown said (F read)

  abbrev pub FirstBehind : {X Y : Type 0} → (X → Y → Output → List ℕ → Type 0) → (X → Result Y ToolFault) → X → E → Type 0
  FirstBehind Tells F read shown = LinesFirst (Tells read) says before after shown said (F read)

  abbrev pub OnceBefore : {X Y : Type 0} → (X → Y → Output → List ℕ → Type 0) → (X → Result Y ToolFault) → X → Result Status ToolFault → Type 0
  OnceBefore Tells F read result = OnceShown is_terminal quiet (ToldBefore Tells F read result)

  abbrev pub OnceBehind : {X Y : Type 0} → (X → Y → Output → List ℕ → Type 0) → (X → Result Y ToolFault) → X → Result Status ToolFault → Type 0
  OnceBehind Tells F read result = OnceShown is_terminal quiet (ToldBehind Tells F read result)

  abbrev pub OnceFirstBefore : {X Y : Type 0} → (X → Y → Output → List ℕ → Type 0) → (X → Result Y ToolFault) → X → Result Status ToolFault → Type 0
  OnceFirstBefore Tells F read result = OnceShown is_terminal quiet (λ shown. ToldBefore Tells F read result shown × FirstBefore Tells F read shown)

  abbrev pub OnceFirstBehind : {X Y : Type 0} → (X → Y → Output → List ℕ → Type 0) → (X → Result Y ToolFault) → X → Result Status ToolFault → Type 0
  OnceFirstBehind Tells F read result = OnceShown is_terminal quiet (λ shown. ToldBehind Tells F read result shown × FirstBehind Tells F read shown)

  abbrev pub BeforeTold : {X Y : Type 0} → (X → Y → Output → List ℕ → Type 0) → (X → Result Y ToolFault) → X → Result Status ToolFault → Type 0
  BeforeTold Tells F read result = ToldBefore Tells F read result quiet

  abbrev pub BehindTold : {X Y : Type 0} → (X → Y → Output → List ℕ → Type 0) → (X → Result Y ToolFault) → X → Result Status ToolFault → Type 0
  BehindTold Tells F read result = ToldBehind Tells F read result quiet

  once-over : (P Q : E → Type 0) → ((shown : E) → P shown → Q shown) → OnceShown is_terminal quiet P → OnceShown is_terminal quiet Q
  once-over P Q over (shown, begins, told) = (shown, begins, over shown told)

  once-first-over : (P Q L M : E → Type 0) → ((shown : E) → P shown → Q shown) → ((shown : E) → P shown → L shown → M shown)
      → OnceShown is_terminal quiet (λ shown. P shown × L shown) → OnceShown is_terminal quiet (λ shown. Q shown × M shown)
  once-first-over P Q L M over first_over (shown, begins, (told, first)) = (shown, begins, (over shown told, first_over shown told first))

  prints-done : (status : Status) (meant : Result Output ToolFault) → Passes → Prints c old new (Ok status) meant → Prints d before after (Ok status) meant
  prints-done status meant passes p = (p.0, p.1, passes p.0 p.2)

  prints_one_of-done : {X : Type 0} (Allows : X → Output → Type 0) (status : Status) (meant : Result X ToolFault) → Passes
      → PrintsOneOf Allows c old new (Ok status) meant → PrintsOneOf Allows d before after (Ok status) meant
  prints_one_of-done Allows status meant passes p = (p.0, p.1, p.2, p.3, passes p.1 p.4)

  prints_both-done : (status : Status) (meant : Result MapOutput ToolFault) → Passes
      → PrintsBoth c says old new quiet said (Ok status) meant → PrintsBoth d says before after quiet said (Ok status) meant
  prints_both-done status meant passes p = (p.0, p.1, p.2, passes p.0 p.3, p.4)

  told-done : {X Y : Type 0} (Tells : X → Y → Output → List ℕ → Type 0) (F : X → Result Y ToolFault) (read : X) (status : Status) → Passes
      → (shown : E) → ToldBefore Tells F read (Ok status) shown → ToldBehind Tells F read (Ok status) shown
  told-done Tells F read status passes shown p = (p.0, p.1, p.2, p.3, p.4, passes p.1 p.5, p.6)

  -- all that is printed is told
  first-done : {X Y : Type 0} (Tells : X → Y → Output → List ℕ → Type 0) (F : X → Result Y ToolFault) (read : X) (status : Status)
      → (shown : E) → ToldBefore Tells F read (Ok status) shown → FirstBefore Tells F read shown → FirstBehind Tells F read shown
  first-done Tells F read status shown p first = inr (p.0, record { status = status; text = p.1 }, p.2, p.3, p.4, p.6)

  prints-fault : (fault : ToolFault) (meant : Result Output ToolFault) → Stays → Prints c old new (Err fault) meant → Prints d before after (Err fault) meant
  prints-fault (Apk f) meant stays p = (p.0, stays p.1)
  prints-fault (Table f) meant stays p = (p.0, stays p.1)
  prints-fault (Layers f) meant stays p = (p.0, stays p.1)
  prints-fault (LayerApk n f) meant stays p = (p.0, stays p.1)
  prints-fault (LayerTable n f) meant stays p = (p.0, stays p.1)
  prints-fault (LayerMap n f) meant stays p = (p.0, stays p.1)
  prints-fault (SideLayers s f) meant stays p = (p.0, stays p.1)
  prints-fault (SideApk s n f) meant stays p = (p.0, stays p.1)
  prints-fault (SideTable s n f) meant stays p = (p.0, stays p.1)
  prints-fault (SideMap s n f) meant stays p = (p.0, stays p.1)
  prints-fault (Device f) meant stays p = (p.0, stays p.1)
  prints-fault (Box f) meant stays p = (p.0, stays p.1)
  prints-fault (Certificate f) meant stays p = (p.0, stays p.1)
  prints-fault OutOfMemory meant stays p = stays p
  prints-fault Write meant stays p = p

  prints_one_of-fault : {X : Type 0} (Allows : X → Output → Type 0) (fault : ToolFault) (meant : Result X ToolFault) → Stays
      → PrintsOneOf Allows c old new (Err fault) meant → PrintsOneOf Allows d before after (Err fault) meant
  prints_one_of-fault Allows (Apk f) meant stays p = (p.0, stays p.1)
  prints_one_of-fault Allows (Table f) meant stays p = (p.0, stays p.1)
  prints_one_of-fault Allows (Layers f) meant stays p = (p.0, stays p.1)
  prints_one_of-fault Allows (LayerApk n f) meant stays p = (p.0, stays p.1)
  prints_one_of-fault Allows (LayerTable n f) meant stays p = (p.0, stays p.1)
  prints_one_of-fault Allows (LayerMap n f) meant stays p = (p.0, stays p.1)
  prints_one_of-fault Allows (SideLayers s f) meant stays p = (p.0, stays p.1)
  prints_one_of-fault Allows (SideApk s n f) meant stays p = (p.0, stays p.1)
  prints_one_of-fault Allows (SideTable s n f) meant stays p = (p.0, stays p.1)
  prints_one_of-fault Allows (SideMap s n f) meant stays p = (p.0, stays p.1)
  prints_one_of-fault Allows (Device f) meant stays p = (p.0, stays p.1)
  prints_one_of-fault Allows (Box f) meant stays p = (p.0, stays p.1)
  prints_one_of-fault Allows (Certificate f) meant stays p = (p.0, stays p.1)
  prints_one_of-fault Allows OutOfMemory meant stays p = stays p
  prints_one_of-fault Allows Write meant stays p = p

  prints_both-fault : (fault : ToolFault) (meant : Result MapOutput ToolFault) → Stays
      → PrintsBoth c says old new quiet said (Err fault) meant → PrintsBoth d says before after quiet said (Err fault) meant
  prints_both-fault (Apk f) meant stays p = (p.0, stays p.1, p.2)
  prints_both-fault (Table f) meant stays p = (p.0, stays p.1, p.2)
  prints_both-fault (Layers f) meant stays p = (p.0, stays p.1, p.2)
  prints_both-fault (LayerApk n f) meant stays p = (p.0, stays p.1, p.2)
  prints_both-fault (LayerTable n f) meant stays p = (p.0, stays p.1, p.2)
  prints_both-fault (LayerMap n f) meant stays p = (p.0, stays p.1, p.2)
  prints_both-fault (SideLayers s f) meant stays p = (p.0, stays p.1, p.2)
  prints_both-fault (SideApk s n f) meant stays p = (p.0, stays p.1, p.2)
  prints_both-fault (SideTable s n f) meant stays p = (p.0, stays p.1, p.2)
  prints_both-fault (SideMap s n f) meant stays p = (p.0, stays p.1, p.2)
  prints_both-fault (Device f) meant stays p = (p.0, stays p.1, p.2)
  prints_both-fault (Box f) meant stays p = (p.0, stays p.1, p.2)
  prints_both-fault (Certificate f) meant stays p = (p.0, stays p.1, p.2)
  prints_both-fault OutOfMemory meant stays p = (stays p.0, p.1)
  prints_both-fault Write meant stays p = p

  told-fault : {X Y : Type 0} (Tells : X → Y → Output → List ℕ → Type 0) (F : X → Result Y ToolFault) (read : X) (fault : ToolFault) → Stays
      → (shown : E) → ToldBefore Tells F read (Err fault) shown → ToldBehind Tells F read (Err fault) shown
  told-fault Tells F read (Apk f) stays shown p = (p.0, stays p.1, p.2)
  told-fault Tells F read (Table f) stays shown p = (p.0, stays p.1, p.2)
  told-fault Tells F read (Layers f) stays shown p = (p.0, stays p.1, p.2)
  told-fault Tells F read (LayerApk n f) stays shown p = (p.0, stays p.1, p.2)
  told-fault Tells F read (LayerTable n f) stays shown p = (p.0, stays p.1, p.2)
  told-fault Tells F read (LayerMap n f) stays shown p = (p.0, stays p.1, p.2)
  told-fault Tells F read (SideLayers s f) stays shown p = (p.0, stays p.1, p.2)
  told-fault Tells F read (SideApk s n f) stays shown p = (p.0, stays p.1, p.2)
  told-fault Tells F read (SideTable s n f) stays shown p = (p.0, stays p.1, p.2)
  told-fault Tells F read (SideMap s n f) stays shown p = (p.0, stays p.1, p.2)
  told-fault Tells F read (Device f) stays shown p = (p.0, stays p.1, p.2)
  told-fault Tells F read (Box f) stays shown p = (p.0, stays p.1, p.2)
  told-fault Tells F read (Certificate f) stays shown p = (p.0, stays p.1, p.2)
  told-fault Tells F read OutOfMemory stays shown p = (stays p.0, p.1)
  told-fault Tells F read Write stays shown p = p

  first-fault : {X Y : Type 0} (Tells : X → Y → Output → List ℕ → Type 0) (F : X → Result Y ToolFault) (read : X) (fault : ToolFault) → Stays
      → (shown : E) → ToldBefore Tells F read (Err fault) shown → FirstBefore Tells F read shown → FirstBehind Tells F read shown
  first-fault Tells F read fault stays shown p first = elim first [
    | inl same ↦ inl (stays same)
    | inr told ↦ inr told
  ]

  told-failed : {X Y : Type 0} (Tells : X → Y → Output → List ℕ → Type 0) (F : X → Result Y ToolFault) (read : X) (status : Status)
      → (shown : E) → ToldBefore Tells F read (Ok status) shown → ToldBehind Tells F read (Err Write) shown
  told-failed Tells F read status shown p = rw p.3 refl

  -- a certificate of all goals, or where goals without a value are left out
  makes-over : (from to : Result Status Stop)
      → ((X Y : Type 0) (Tells : X → Y → Output → List ℕ → Type 0) (F : X → Result Y ToolFault) (meant : Result X StopOf)
      → CarriesOut (OnceBefore Tells F) meant from → CarriesOut (OnceBehind Tells F) meant to)
      → ((X Y : Type 0) (Tells : X → Y → Output → List ℕ → Type 0) (F : X → Result Y ToolFault) (meant : Result X StopOf)
      → CarriesOut (OnceFirstBefore Tells F) meant from → CarriesOut (OnceFirstBehind Tells F) meant to)
      → (omit names : Bool) (most : ℕ) (opened : Result OpenMakeOf StopOf)
      → MakesOpened is_terminal omit names most c says old new quiet said opened from → MakesOpened is_terminal omit names most d says before after quiet said opened to
  makes-over from to carry_once carry_first false names most opened p =
      carry_once _ _ (λ (asked : OpenMakeOf). IsMakeAnswer asked.goals most names) (λ (asked : OpenMakeOf). Ok asked.opened) opened p
  makes-over from to carry_once carry_first true names most opened p =
      carry_first _ _ (λ (asked : OpenMakeOf). IsOmitOutput asked.goals most) (λ (asked : OpenMakeOf). Ok asked.opened) opened p

  -- an answer is one over the other writer too, where each command is
  answers-over : (from to : Result Status Stop)
      → ((X : Type 0) (F : X → Result Output ToolFault) (meant : Result X StopOf)
      → CarriesOut (Before F) meant from → CarriesOut (Behind F) meant to)
      → ((X Y : Type 0) (Allows : X → Y → Output → Type 0) (F : X → Result Y ToolFault) (meant : Result X StopOf)
      → CarriesOut (BeforeAny Allows F) meant from → CarriesOut (BehindAny Allows F) meant to)
      → ((X Y : Type 0) (Tells : X → Y → Output → List ℕ → Type 0) (F : X → Result Y ToolFault) (meant : Result X StopOf)
      → CarriesOut (OnceBefore Tells F) meant from → CarriesOut (OnceBehind Tells F) meant to)
      → ((X Y : Type 0) (Tells : X → Y → Output → List ℕ → Type 0) (F : X → Result Y ToolFault) (meant : Result X StopOf)
      → CarriesOut (OnceFirstBefore Tells F) meant from → CarriesOut (OnceFirstBehind Tells F) meant to)
      → ((X Y : Type 0) (Tells : X → Y → Output → List ℕ → Type 0) (F : X → Result Y ToolFault) (meant : Result X StopOf)
      → CarriesOut (BeforeTold Tells F) meant from → CarriesOut (BehindTold Tells F) meant to)
      → ((X : Type 0) (F : X → Result MapOutput ToolFault) (meant : Result X StopOf)
      → CarriesOut (BeforeBoth F) meant from → CarriesOut (BehindBoth F) meant to)
      → (places : Places) (request : Request) → Answers is_terminal c says old new quiet said places request from → Answers is_terminal d says before after quiet said places request to
  answers-over from to carry carry_any carry_once carry_first carry_told carry_both places (asks.Rows it) p = carry _ (rows_printed it.android) (table_of places it.table.now) p
  answers-over from to carry carry_any carry_once carry_first carry_told carry_both places (asks.Dump it) p = carry _ (dump_printed it.android) (table_of places it.table.now) p
  answers-over from to carry carry_any carry_once carry_first carry_told carry_both places (asks.Map it) p =
      carry_both _ (λ (inputs : MapBytes). map_printed it.form inputs.target inputs.overlay) (map_files places it.target.now it.overlay.now) p
  answers-over from to carry carry_any carry_once carry_first carry_told carry_both places (asks.Ids it) p = carry _ ids_output (layers_of places it.layers.now) p
  answers-over from to carry carry_any carry_once carry_first carry_told carry_both places (asks.Survey it) p =
      carry _ (λ (files : SurveyBytes). survey_printed it files) _ p
  answers-over from to carry carry_any carry_once carry_first carry_told carry_both places (asks.Show it) p =
      carry _ (λ (files : ShowBytes). shown_output it.form it.pictured files) _ p
  answers-over from to carry carry_any carry_once carry_first carry_told carry_both places (asks.Query it) p =
      carry _ (λ (asked : OpenQueryOf). Ok (query_printed it.form it.names (paths_asked (asked_files places it.layers.now it.device.now (texts_of it.words))) asked)) _ p
  answers-over from to carry carry_any carry_once carry_first carry_told carry_both places (asks.Explain it) p =
      carry _ (λ (asked : OpenIdOf). Ok (explain_printed it (paths_read (device_files places it.layers.now it.device.now)) asked)) _ p
  answers-over from to carry carry_any carry_once carry_first carry_told carry_both places (asks.Bag it) p =
      carry _ (λ (asked : OpenIdOf). Ok (bag_printed it (paths_read (device_files places it.layers.now it.device.now)) asked)) _ p
  answers-over from to carry carry_any carry_once carry_first carry_told carry_both places (asks.Attr it) p =
      carry _ (λ (asked : OpenAttrOf). Ok (attr_printed it.form it.names it.force (paths_asked (asked_files places it.layers.now it.device.now (texts_of it.styles))) asked)) _ p
  answers-over from to carry carry_any carry_once carry_first carry_told carry_both places (asks.Make it) p =
      makes-over from to carry_once carry_first it.omit it.names it.max_nodes _ p
  answers-over from to carry carry_any carry_once carry_first carry_told carry_both places (asks.Check it) p =
      carry_told _ _ (λ (asked : OpenCheckOf). IsCheckAnswer asked.goals (telling_of it (paths_checked (check_files places it.layers.now it.box_path.now it.certificate.now (texts_of it.goals))))) (λ (asked : OpenCheckOf). Ok asked.opened) _ p
  answers-over from to carry carry_any carry_once carry_first carry_told carry_both places (asks.Diff it) p =
      carry_any _ _ (λ (asked : OpenDiffOf). IsDiffOutput it.form asked.pairs it.max_nodes) (λ (asked : OpenDiffOf). Ok asked.opened) _ p
  answers-over from to carry carry_any carry_once carry_first carry_told carry_both places (asks.Values it) p =
      carry_any _ _ (λ (asked : OpenDiffOf). IsValuesOutput it.form asked.pairs it.max_nodes) (λ (asked : OpenDiffOf). Ok asked.opened) _ p
  answers-over from to carry carry_any carry_once carry_first carry_told carry_both places (asks.Unused it) p =
      carry_any _ _ (λ (asked : OpenUnusedOf). IsUnusedOutput it.form asked.paths asked.asked it.max_nodes) (λ (asked : OpenUnusedOf). Ok asked.opened) _ p
  answers-over from to carry carry_any carry_once carry_first carry_told carry_both places (asks.Device it) p = carry _ (λ (text : List ℕ). Ok (as_output text)) _ p

  answers-done : (status : Status) → Passes → (places : Places) (request : Request)
      → Answers is_terminal c says old new quiet said places request (Ok status) → Answers is_terminal d says before after quiet said places request (Ok status)
  answers-done status passes = answers-over (Ok status) (Ok status)
      (λ X F meant p. carries-done (Before F) (Behind F) meant status (λ read q. prints-done status (F read) passes q) p)
      (λ X Y Allows F meant p. carries-done (BeforeAny Allows F) (BehindAny Allows F) meant status (λ read q. prints_one_of-done (Allows read) status (F read) passes q) p)
      (λ X Y Tells F meant p. carries-done (OnceBefore Tells F) (OnceBehind Tells F) meant status
      (λ read. once-over (ToldBefore Tells F read (Ok status)) (ToldBehind Tells F read (Ok status)) (told-done Tells F read status passes)) p)
      (λ X Y Tells F meant p. carries-done (OnceFirstBefore Tells F) (OnceFirstBehind Tells F) meant status
      (λ read. once-first-over (ToldBefore Tells F read (Ok status)) (ToldBehind Tells F read (Ok status)) (FirstBefore Tells F read) (FirstBehind Tells F read)
      (told-done Tells F read status passes) (first-done Tells F read status)) p)
      (λ X Y Tells F meant p. carries-done (BeforeTold Tells F) (BehindTold Tells F) meant status (λ read q. told-done Tells F read status passes quiet q) p)
      (λ X F meant p. carries-done (BeforeBoth F) (BehindBoth F) meant status (λ read q. prints_both-done status (F read) passes q) p)

  answers-stop : (stop : Stop) → Stays → (places : Places) (request : Request)
      → Answers is_terminal c says old new quiet said places request (Err stop) → Answers is_terminal d says before after quiet said places request (Err stop)
  answers-stop stop stays = answers-over (Err stop) (Err stop)
      (λ X F meant p. carries-stop (Before F) (Behind F) meant stop (λ read fault q. prints-fault fault (F read) stays q) p)
      (λ X Y Allows F meant p. carries-stop (BeforeAny Allows F) (BehindAny Allows F) meant stop (λ read fault q. prints_one_of-fault (Allows read) fault (F read) stays q) p)
      (λ X Y Tells F meant p. carries-stop (OnceBefore Tells F) (OnceBehind Tells F) meant stop
      (λ read fault. once-over (ToldBefore Tells F read (Err fault)) (ToldBehind Tells F read (Err fault)) (told-fault Tells F read fault stays)) p)
      (λ X Y Tells F meant p. carries-stop (OnceFirstBefore Tells F) (OnceFirstBehind Tells F) meant stop
      (λ read fault. once-first-over (ToldBefore Tells F read (Err fault)) (ToldBehind Tells F read (Err fault)) (FirstBefore Tells F read) (FirstBehind Tells F read)
      (told-fault Tells F read fault stays) (first-fault Tells F read fault stays)) p)
      (λ X Y Tells F meant p. carries-stop (BeforeTold Tells F) (BehindTold Tells F) meant stop (λ read fault q. told-fault Tells F read fault stays quiet q) p)
      (λ X F meant p. carries-stop (BeforeBoth F) (BehindBoth F) meant stop (λ read fault q. prints_both-fault fault (F read) stays q) p)

  answers-failed : (status : Status) (stop : Stop) → stop_of stop ≡ tool Write → (places : Places) (request : Request)
      → Answers is_terminal c says old new quiet said places request (Ok status) → Answers is_terminal d says before after quiet said places request (Err stop)
  answers-failed status stop failed = answers-over (Ok status) (Err stop)
      (λ X F meant p. carries-failed (Before F) (Behind F) meant status stop failed (λ read q. rw q.1 refl) p)
      (λ X Y Allows F meant p. carries-failed (BeforeAny Allows F) (BehindAny Allows F) meant status stop failed (λ read q. rw q.2 refl) p)
      (λ X Y Tells F meant p. carries-failed (OnceBefore Tells F) (OnceBehind Tells F) meant status stop failed
      (λ read. once-over (ToldBefore Tells F read (Ok status)) (ToldBehind Tells F read (Err Write)) (told-failed Tells F read status)) p)
      (λ X Y Tells F meant p. carries-failed (OnceFirstBefore Tells F) (OnceFirstBehind Tells F) meant status stop failed
      (λ read. once-first-over (ToldBefore Tells F read (Ok status)) (ToldBehind Tells F read (Err Write)) (FirstBefore Tells F read) (FirstBehind Tells F read)
      (told-failed Tells F read status) (first-done Tells F read status)) p)
      (λ X Y Tells F meant p. carries-failed (BeforeTold Tells F) (BehindTold Tells F) meant status stop failed (λ read q. told-failed Tells F read status quiet q) p)
      (λ X F meant p. carries-failed (BeforeBoth F) (BehindBoth F) meant status stop failed (λ read q. rw q.2 refl) p)

  -- What was answered over the one writer is answered over the other, or a write failed there.
  answers-written : (known : Option Places) (request : Request) (answered outcome : Result Status Stop)
      → IfSome known (λ places. Answers is_terminal c says old new quiet said places request answered)
      → IfOk outcome (λ status. answered ≡ Ok status) → IfErr answered (λ stop. outcome ≡ Err stop)
      → (IsOk answered → IfErr outcome (λ stop. stop_of stop ≡ tool Write))
      → OnOk outcome Passes → IfErr answered (λ stop. Stays)
      → IfSome known (λ places. Answers is_terminal d says before after quiet said places request outcome)
  answers-written None request answered outcome given same stop failed passes stays = tt
  answers-written (Some places) request (Ok status) (Ok ended) given same stop failed passes stays =
      answers-done ended passes places request (rw same at given)
  answers-written (Some places) request (Ok status) (Err other) given same stop failed passes stays =
      answers-failed status other (failed refl) places request given
  answers-written (Some places) request (Err first) outcome given same stop failed passes stays =
      rw stop (answers-stop first stays places request given)

-- ---- a writer that keeps bytes back, and the one behind it

-- nothing is kept back any more
pub keeps-behind : (before behind : Option (List ℕ)) (kept_back : List ℕ) → kept_back ≡ [] → Keeps before (append_known behind kept_back) → Keeps before behind
keeps-behind None behind kept_back none keeps = tt
keeps-behind (Some xs) None kept_back none keeps = absurd keeps
keeps-behind (Some xs) (Some ys) kept_back none keeps = sym (append-nil ys) ∙ ap (λ (l : List ℕ). ys ++ l) (sym none) ∙ keeps

module _ {T E : Type 0} (is_terminal : Bool) (contents : T → Option (List ℕ)) (says : E → Option (List ℕ)) (old new : BufWriter T Global) (after : T) (quiet said : E) (answered outcome : Result Status Stop)
    (same : IfOk outcome (λ status. answered ≡ Ok status)) (stop : IfErr answered (λ stop. outcome ≡ Err stop))
    (failed : IsOk answered → IfErr outcome (λ stop. stop_of stop ≡ tool Write)) (left : IfErr answered (λ stop. after ≡ writer_inner new)) where
  passes-behind : (outcome : Result Status Stop) → writer_buffer old ≡ [] → OnOk outcome (Keeps (writer_contents contents new) (contents after))
      → OnOk outcome (Passes is_terminal (writer_contents contents) contents says old new (writer_inner old) after quiet said)
  passes-behind (Ok status) none whole = λ text grown.
      appends-through (contents (writer_inner old)) (writer_contents contents new) (contents after) text
      (subst (λ (l : List ℕ). Appends (append_known (contents (writer_inner old)) l) (writer_contents contents new) text) none grown) whole
  passes-behind (Err stop) none whole = tt

  stays-behind : (answered : Result Status Stop) → IfErr answered (λ stop. after ≡ writer_inner new) → IfErr answered (λ stop. new ≡ old → after ≡ writer_inner old)
  stays-behind (Ok status) left = tt
  stays-behind (Err stop) left = λ same. left ∙ ap (λ (w : BufWriter T Global). writer_inner w) same

  pub answers-behind : (known : Option Places) (request : Request) → writer_buffer old ≡ []
      → IfSome known (λ places. Answers is_terminal (writer_contents contents) says old new quiet said places request answered)
      → OnOk outcome (Keeps (writer_contents contents new) (contents after))
      → IfSome known (λ places. Answers is_terminal contents says (writer_inner old) after quiet said places request outcome)
  answers-behind known request none given whole =
      answers-written is_terminal (writer_contents contents) contents says old new (writer_inner old) after quiet said known request answered outcome given same stop failed
      (passes-behind outcome none whole) (stays-behind answered left)

  -- where there is no answer and no write failed, they are as they were
  unsaid-behind : IfErr answered (λ stop. stop_of stop ≢ tool Write → said ≡ quiet) → IfErr outcome (λ stop. stop_of stop ≢ tool Write → said ≡ quiet)
  unsaid-behind shown = go answered outcome shown stop failed
    where
      go : (answered outcome : Result Status Stop) → IfErr answered (λ stop. stop_of stop ≢ tool Write → said ≡ quiet) → IfErr answered (λ stop. outcome ≡ Err stop)
          → (IsOk answered → IfErr outcome (λ stop. stop_of stop ≡ tool Write)) → IfErr outcome (λ stop. stop_of stop ≢ tool Write → said ≡ quiet)
      go (Ok status) (Ok ended) shown stop failed = tt
      go (Ok status) (Err other) shown stop failed = λ told. absurd (told (failed refl))
      go (Err first) outcome shown stop failed = rw stop shown

  -- Errors are as the answer left them.
  pub shows-behind : (request : Request) → ErrorsGet is_terminal quiet said request answered → ErrorsGet is_terminal quiet said request outcome
  shows-behind (asks.Map it) shown = (shown.0, unsaid-behind shown.1)
  shows-behind (asks.Make it) shown = λ plain. ((shown plain).0, unsaid-behind (shown plain).1)
  shows-behind (asks.Check it) shown = (shown.0, unsaid-behind shown.1)
  shows-behind (asks.Rows it) shown = shown
  shows-behind (asks.Dump it) shown = shown
  shows-behind (asks.Ids it) shown = shown
  shows-behind (asks.Survey it) shown = shown
  shows-behind (asks.Show it) shown = shown
  shows-behind (asks.Query it) shown = shown
  shows-behind (asks.Explain it) shown = shown
  shows-behind (asks.Bag it) shown = shown
  shows-behind (asks.Attr it) shown = shown
  shows-behind (asks.Diff it) shown = shown
  shows-behind (asks.Values it) shown = shown
  shows-behind (asks.Unused it) shown = shown
  shows-behind (asks.Device it) shown = shown

  -- Where there is no answer and no write failed, the writer behind is as it was.
  pub unwritten-behind : IfErr answered (λ stop. stop_of stop ≢ tool Write → new ≡ old) → IfErr outcome (λ stop. stop_of stop ≢ tool Write → after ≡ writer_inner old)
  unwritten-behind unwritten = go answered outcome unwritten stop failed (stays-behind answered left)
    where
      go : (answered outcome : Result Status Stop) → IfErr answered (λ stop. stop_of stop ≢ tool Write → new ≡ old) → IfErr answered (λ stop. outcome ≡ Err stop)
          → (IsOk answered → IfErr outcome (λ stop. stop_of stop ≡ tool Write)) → IfErr answered (λ stop. new ≡ old → after ≡ writer_inner old)
          → IfErr outcome (λ stop. stop_of stop ≢ tool Write → after ≡ writer_inner old)
      go (Ok status) (Ok ended) unwritten stop failed stays = tt
      go (Ok status) (Err other) unwritten stop failed stays = λ told. absurd (told (failed refl))
      go (Err first) outcome unwritten stop failed stays = rw stop (λ told. stays (unwritten told))
