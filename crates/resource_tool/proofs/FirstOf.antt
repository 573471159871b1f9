-- The first goals of a list.
use Rattle.std.proofs.Common.{◌≡◌, ◌≢◌, ◌⊎◌, ℕ, zero, suc, ◌<◌, inl, inr, arith, Bool, List, [], ◌∷◌, length, take, Option, Some, Result, Ok, Err, if◌then◌else◌, refl, ap, subst, ◌∙◌, length-take}
use Rattle.std.specs.Prelude.{slice_get}
use Rattle.std.proofs.lemmas.List.{take_all}
use Rattle.std.proofs.lemmas.Option.{slice_get_within}
use Rattle.contract_words.specs.Faults.{◌>>=◌}
use Rattle.command_base.specs.overlay_map.Layer.{LayerOf}
use Rattle.command_base.specs.declared.fault.ToolFault.{ToolFault}
use Rattle.command_base.specs.declared.fault.ToolFault.TheVariants as faults
use Rattle.command_base.specs.names.declared.fault.NameFault.{NameFault}
use Rattle.command_base.specs.names.declared.fault.NameFault.TheVariants as name_faults
use Rattle.command_base.specs.names.NameFault.{NameFaultOf, name_fault_of}
use Rattle.command_base.specs.declared.status.Status.{Status}
use Rattle.command_base.specs.declared.stop.Stop.{Stop}
use Rattle.command_base.specs.CarriesOut.{CarriesOut, found_or_stop, read_or_stop, stop_of_fault}
use Rattle.command_base.specs.Stop.{StopOf, stop_of, stop_of_name, tool}
use Rattle.command_base.specs.names.NamedGoal.{NamedGoalOf}
use Rattle.command_base.specs.names.NamedGoals.{first_goals, goals_named}
use Rattle.resource_text.specs.cert_maker.res_value.Goal.{GoalSeen}
use Rattle.resource_tool.specs.GoalTold.{goal_told, line_about, line_of}

-- ---- a list

pub first-at : {A : Type 0} (n : ℕ) (xs : List A) (k : ℕ) → k < n → slice_get (take n xs) k ≡ slice_get xs k
first-at zero xs k within = absurd (omega (arith, within))
first-at (suc n) [] k within = refl
first-at (suc n) (x ∷ xs) zero within = refl
first-at (suc n) (x ∷ xs) (suc k) within = first-at n xs k (omega (arith, within))

-- what stands among the first has a place among them
pub place-within : {A : Type 0} (n : ℕ) (xs : List A) (k : ℕ) (x : A) → slice_get (take n xs) k ≡ Some x → k < n
place-within n xs k x is = let within = slice_get_within (take n xs) k x is in let count = length-take n xs in omega (arith, within, count)

-- fewer than may be taken are all
pub take-fewer : {A : Type 0} (n : ℕ) (xs : List A) → length (take n xs) < n → take n xs ≡ xs
take-fewer n xs few = let count = length-take n xs in take_all n xs (omega (arith, few, count))

-- ---- what is told of a goal

-- where a goal is among the first, the same is told of it
pub told-of-first : (stack : List LayerOf) (asked : List GoalSeen) (names : Bool) (n g : ℕ) → g < n → goal_told stack (take n asked) names (Some g) ≡ goal_told stack asked names (Some g)
unfolding goal_told line_about
told-of-first stack asked names n g within = ap (λ (goal : Option GoalSeen). if names then line_of stack g goal else []) (first-at n asked g within)

-- ---- what is found by names

-- the first of all goals
found-first : {Y : Type 0} (total : Result (List GoalSeen) NameFaultOf) (n : ℕ) (first : List GoalSeen) (made : List GoalSeen → Y) (part : Y → Y) → ((all : List GoalSeen) → part (made all) ≡ made (take n all))
    → (total >>= λ all. Ok (take n all)) ≡ Ok first → ((found_or_stop total >>= λ all. Ok (made all)) >>= λ y. Ok (part y)) ≡ Ok (made first)
found-first {Y} (Ok all) n first made part parts is =
    let same : take n all ≡ first = cc in
    let wrapped : Y → Result Y StopOf = λ y. Ok y in ap wrapped (parts all ∙ ap made same)
found-first (Err text) n first made part parts is = absurd cc

-- the first word that asks for none
found-none : {Y : Type 0} (total : Result (List GoalSeen) NameFaultOf) (n : ℕ) (fault : NameFaultOf) (made : List GoalSeen → Y) (part : Y → Y)
    → (total >>= λ all. Ok (take n all)) ≡ Err fault → ((found_or_stop total >>= λ all. Ok (made all)) >>= λ y. Ok (part y)) ≡ Err (stop_of_fault fault)
found-none (Ok all) n fault made part is = absurd cc
found-none {Y} (Err other) n fault made part is =
    let same : other ≡ fault = cc in
    let stopped : NameFaultOf → Result Y StopOf = λ fault. Err (stop_of_fault fault) in ap stopped same

-- The words are read, then inputs, and then all goals are found: what is made of the first of them is a part of what is made
-- of all.
pub opened-first : {X Y : Type 0} (named : Result (List NamedGoalOf) StopOf) (read : Result X ToolFault) (words : List NamedGoalOf) (x : X) (stack : X → List LayerOf) (made : X → List GoalSeen → Y) (part : Y → Y)
    (n : ℕ) (first : List GoalSeen) → ((all : List GoalSeen) → part (made x all) ≡ made x (take n all)) → named ≡ Ok words → read ≡ Ok x → first_goals (stack x) words n ≡ Ok first
    → ((named >>= λ named. read_or_stop read >>= λ x. found_or_stop (goals_named (stack x) named) >>= λ goals. Ok (made x goals)) >>= λ y. Ok (part y)) ≡ Ok (made x first)
unfolding first_goals
opened-first named read words x stack made part n first parts is_named is_read is =
    rw (is_named, is_read) (found-first (goals_named (stack x) words) n first (made x) part parts is)

-- the same where a word asks for none
pub opened-none : {X Y : Type 0} (named : Result (List NamedGoalOf) StopOf) (read : Result X ToolFault) (words : List NamedGoalOf) (x : X) (stack : X → List LayerOf) (made : X → List GoalSeen → Y) (part : Y → Y)
    (n : ℕ) (fault : NameFaultOf) → named ≡ Ok words → read ≡ Ok x → first_goals (stack x) words n ≡ Err fault
    → ((named >>= λ named. read_or_stop read >>= λ x. found_or_stop (goals_named (stack x) named) >>= λ goals. Ok (made x goals)) >>= λ y. Ok (part y)) ≡ Err (stop_of_fault fault)
unfolding first_goals
opened-none named read words x stack made part n fault is_named is_read is =
    rw (is_named, is_read) (found-none (goals_named (stack x) words) n fault (made x) part is)

-- why it stops then
pub none-stops : {Y : Type 0} (meant : Result Y StopOf) (fault : NameFault) → (fault ≢ name_faults.OutOfMemory → meant ≡ Err (stop_of_fault (name_fault_of fault)))
    → stop_of (stop_of_name fault) ≢ tool faults.OutOfMemory → meant ≡ Err (stop_of (stop_of_name fault))
none-stops meant (name_faults.NoResource name) given other = given (λ e. cc)
none-stops meant (name_faults.TwoResources names) given other = given (λ e. cc)
none-stops meant name_faults.OutOfMemory given other = absurd (other refl)

-- ---- a command

-- a stop, of a part of what is read and of all of it
stops-on-all : {X : Type 0} (part : X → X) (Command : X → Result Status ToolFault → Type 0) (x : X) (some all : Result X StopOf) (stop : StopOf) → some ≡ Ok (part x) → all ≡ Ok x
    → ((done : Result Status ToolFault) → Command (part x) done → Command x done)
    → (some ≡ Err stop) ⊎ ((read : X) × (fault : ToolFault) × (some ≡ Ok read) × (stop ≡ tool fault) × Command read (Err fault))
    → (all ≡ Err stop) ⊎ ((read : X) × (fault : ToolFault) × (all ≡ Ok read) × (stop ≡ tool fault) × Command read (Err fault))
stops-on-all part Command x some all stop of_part of_all more (inl stops) = absurd cc
stops-on-all {X} part Command x some all stop of_part of_all more (inr (read, fault, is, ends, done)) =
    let same : read ≡ part x = cc in inr (x, fault, of_all, ends, more (Err fault) (subst (λ (y : X). Command y (Err fault)) same done))

-- What is carried out on a part of what is read is carried out on all of it, if the command does with a part what it does with
-- all.
pub carried-on-all : {X : Type 0} (part : X → X) (Command : X → Result Status ToolFault → Type 0) (meant : Result X StopOf) (result : Result Status Stop)
    → ((x : X) (done : Result Status ToolFault) → Command (part x) done → Command x done)
    → CarriesOut Command (meant >>= λ x. Ok (part x)) result → CarriesOut Command meant result
carried-on-all {X} part Command (Ok x) (Ok status) more (read, is, done) =
    let same : read ≡ part x = cc in (x, refl, more x (Ok status) (subst (λ (y : X). Command y (Ok status)) same done))
carried-on-all part Command (Err fault) (Ok status) more (read, is, done) = absurd cc
carried-on-all part Command (Ok x) (Err stop) more stopped =
    λ other. stops-on-all part Command x (Ok (part x)) (Ok x) (stop_of stop) refl refl (more x) (stopped other)
carried-on-all part Command (Err fault) (Err stop) more stopped = stopped
