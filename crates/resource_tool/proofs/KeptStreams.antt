-- What a fault leaves of what was printed and said.
use Rattle.std.proofs.Common.{◌≡◌, ◌≢◌, ℕ, Bool, true, false, List, Option, Result, Ok, Err, MatchResult, refl, sym, subst, ◌∙◌}
use Rattle.command_base.specs.declared.fault.ToolFault.{ToolFault}
use Rattle.command_base.specs.declared.fault.ToolFault.TheVariants.{OutOfMemory, Write}
use Rattle.command_base.specs.declared.status.Status.{Status}
use Rattle.command_base.specs.declared.stop.Stop.{Stop}
use Rattle.command_base.specs.declared.stop.Stop.TheVariants.{Tool}
use Rattle.command_base.specs.CarriesOut.{IsKept}
use Rattle.command_base.specs.Output.{Output}
use Rattle.command_base.specs.Stop.{tool}
use Rattle.resource_tool.specs.Answered.{PrintsBothOneOf}
use Rattle.resource_tool.specs.Make.{OpenMakeOf, PrintsMade}
use Rattle.resource_tool.specs.MakeOutput.{IsMakeAnswer}
use Rattle.resource_tool.specs.OmitOutput.{IsOmitOutput}

-- both writers are as they were, unless one failed
pub kept-both : {W V X : Type 0} (Allows : X → Output → List ℕ → Type 0) (contents : W → Option (List ℕ)) (says : V → Option (List ℕ)) (old new : W) (before after : V) (fault : ToolFault) (meant : Result X ToolFault)
    → PrintsBothOneOf Allows contents says old new before after (Err fault) meant → tool fault ≢ tool Write → (new ≡ old) × (after ≡ before)
kept-both Allows contents says old new before after OutOfMemory meant kept told = kept
kept-both Allows contents says old new before after Write meant read told = absurd (told refl)
kept-both Allows contents says old new before after fault meant kept told = (kept.1, kept.2)

pub kept-made : {W V : Type 0} (is_terminal omit names : Bool) (most : ℕ) (contents : W → Option (List ℕ)) (says : V → Option (List ℕ)) (old new : W) (before after : V) (make : OpenMakeOf) (fault : ToolFault)
    → PrintsMade is_terminal omit names most contents says old new before after make (Err fault) → tool fault ≢ tool Write → (new ≡ old) × (is_terminal ≡ false → after ≡ before)
kept-made is_terminal true names most contents says old new before after make fault (shown, plain, (made, first)) told =
    let kept = kept-both (IsOmitOutput make.goals most) contents says old new shown after fault (Ok make.opened) made told in (kept.0, λ no_terminal. kept.1 ∙ plain no_terminal)
kept-made is_terminal false names most contents says old new before after make fault (shown, plain, made) told =
    let kept = kept-both (IsMakeAnswer make.goals most names) contents says old new shown after fault (Ok make.opened) made told in (kept.0, λ no_terminal. kept.1 ∙ plain no_terminal)

-- ---- by what the command did

-- nothing was written
pub kept-still : {W : Type 0} (writer : W) (result : Result Status Stop) → IsKept writer writer result
kept-still writer (Ok status) = tt
kept-still writer (Err stop) = λ told. refl

both-end : {W V : Type 0} (old new : W) (before after : V) (done : Result Status ToolFault) (result : Result Status Stop)
    → ((fault : ToolFault) → done ≡ Err fault → tool fault ≢ tool Write → (new ≡ old) × (after ≡ before))
    → MatchResult done (λ status. result ≡ Ok status) (λ fault. result ≡ Err (Tool fault)) → IsKept old new result × IsKept before after result
both-end old new before after (Ok status) result kept same = subst (λ (r : Result Status Stop). IsKept old new r × IsKept before after r) (sym same) (tt, tt)
both-end old new before after (Err fault) result kept same =
    subst (λ (r : Result Status Stop). IsKept old new r × IsKept before after r) (sym same) (λ told. (kept fault refl told).0, λ told. (kept fault refl told).1)

pub both-by-done : {W V X : Type 0} (Allows : X → Output → List ℕ → Type 0) (contents : W → Option (List ℕ)) (says : V → Option (List ℕ)) (old new : W) (before after : V) (meant : Result X ToolFault)
    (done : Result Status ToolFault) (result : Result Status Stop) → PrintsBothOneOf Allows contents says old new before after done meant
    → MatchResult done (λ status. result ≡ Ok status) (λ fault. result ≡ Err (Tool fault)) → IsKept old new result × IsKept before after result
both-by-done Allows contents says old new before after meant done result printed same =
    both-end old new before after done result
    (λ fault is. kept-both Allows contents says old new before after fault meant (subst (λ (r : Result Status ToolFault). PrintsBothOneOf Allows contents says old new before after r meant) is printed)) same

pub made-by-done : {W V : Type 0} (is_terminal omit names : Bool) (most : ℕ) (contents : W → Option (List ℕ)) (says : V → Option (List ℕ)) (old new : W) (before after : V) (make : OpenMakeOf)
    (done : Result Status ToolFault) (result : Result Status Stop) → PrintsMade is_terminal omit names most contents says old new before after make done
    → MatchResult done (λ status. result ≡ Ok status) (λ fault. result ≡ Err (Tool fault)) → IsKept old new result × (is_terminal ≡ false → IsKept before after result)
made-by-done is_terminal omit names most contents says old new before after make (Ok status) result made same =
    subst (λ (r : Result Status Stop). IsKept old new r × (is_terminal ≡ false → IsKept before after r)) (sym same) (tt, λ no_terminal. tt)
made-by-done is_terminal omit names most contents says old new before after make (Err fault) result made same =
    let kept : tool fault ≢ tool Write → (new ≡ old) × (is_terminal ≡ false → after ≡ before) = kept-made is_terminal omit names most contents says old new before after make fault made in
    subst (λ (r : Result Status Stop). IsKept old new r × (is_terminal ≡ false → IsKept before after r)) (sym same) (λ told. (kept told).0, λ no_terminal told. (kept told).1 no_terminal)
