-- Words that are no fault of the command line name a command that it has: `help`, which clap adds, is a fault.
use Rattle.std.proofs.Common.{◌≡◌, ◌&&◌, ◌||◌, ◌∙◌, ℕ, Bool, true, false, not, if◌then◌else◌, List, [], ◌∷◌, codes, Option, Some, None, Result, Ok, Err, IfOk, is_some, option_map, refl, sym, ap, subst, unwrap_or, arith}
use Rattle.std.specs.List.{find, fold, list_all}
use Rattle.std.specs.Str.{bytes_eq}
use Rattle.std.specs.Prelude.{IfSome}
use Rattle.std.proofs.lemmas.Slice.Eq.{bytes_eq-Decides}
use Rattle.clap.specs.Faults.{fault_of, other_fault, step_fault, turn_fault, walk_fault, word_fault}
use Rattle.clap.specs.Lexer.{long_of, short_of}
use Rattle.clap.specs.Kinds.{FailsBy, Kinds, or_else}
use Rattle.clap.specs.Simple.{Shape, argument_words, built, entered, label_of, names_of, rows_at, subcommand_of, subcommand_rows_of}
use Rattle.clap.specs.Walk.{Held, Names, Outcome, Row, Rule, Step, Text, Waiting, Walk, after_flag, after_step, answers_to, arg_by_index, done, idle, is_empty, long_or_other, next, nothing_held, option, plain, plain_word, positional, refused, short_or_plain, stop_after, subcommand, subcommand_met, subcommand_or_other, to_positional, trailing, value, waits, walk_from, walked, walked_from, word_met}
use Rattle.clap.specs.declared.error.Error.{Error}
use Rattle.clap.specs.declared.error.kind.ErrorKind.{ErrorKind}
use Rattle.clap.specs.declared.parser.matches.ArgMatches.{ArgMatches}
use Rattle.clap.proofs.SimpleLemmas.{is_nil}
use Rattle.clap.proofs.WalkLemmas.{both}
use Rattle.restool.specs.Request.{command_line}
use Rattle.restool.specs.Request.{command_of}

-- ---- the first of two lists of faults, and the second

first_empty : (first second : Kinds) → or_else first second ≡ [] → first ≡ []
first_empty [] second none = refl
first_empty (k ∷ ks) second none = none

second_empty : (first second : Kinds) → or_else first second ≡ [] → second ≡ []
second_empty [] second none = none
second_empty (k ∷ ks) second none = absurd (grind (arith, none))

-- ---- a walk that is no fault stops at no `help`

-- the walk has not stopped at `help`
abbrev IsPast : Option (Text × List Text) → Type 0
IsPast None = Unit {0}
IsPast (Some p) = bytes_eq p.0 (codes "help") ≡ false

-- the step goes on in the same command
abbrev Stays : Step → Type 0
Stays (subcommand name) = ⊥
Stays _ = Unit {0}

plain_stays : (c : List Rule) (waiting : Waiting) (word : Text) (h : Held) → Stays (plain_word c waiting word h).1
plain_stays c idle word h = tt
plain_stays c (option id) word h = tt
plain_stays c positional word h = tt

flag_stays : (c : List Rule) (waiting : Waiting) (word : Text) (h : Held) (outcome : Outcome) → Stays (after_flag c waiting word h outcome).1
flag_stays c waiting word h done = tt
flag_stays c waiting word h (waits id) = tt
flag_stays c waiting word h plain = plain_stays c waiting word h
flag_stays c waiting word h refused = plain_stays c waiting word h

short_stays : (c : List Rule) (waiting : Waiting) (word : Text) (flags : Option Text) (h : Held) → Stays (short_or_plain c waiting word flags h).1
short_stays c waiting word (Some flags) h = flag_stays c waiting word _ _
short_stays c waiting word None h = plain_stays c waiting word h

long_stays : (c : List Rule) (waiting : Waiting) (word : Text) (flag : Option (Text × Option Text)) (h : Held) → Stays (long_or_other c waiting word flag h).1
long_stays c waiting word (Some p) h = flag_stays c waiting word _ _
long_stays c waiting word None h = short_stays c waiting word (short_of word) h

other_stays : (c : List Rule) (waiting : Waiting) (position : ℕ) (word : Text) (h : Held) (is_end : Bool)
    → Stays (if is_end then (h, trailing position) else long_or_other c waiting word (long_of word) h).1
other_stays c waiting position word h true = tt
other_stays c waiting position word h false = long_stays c waiting word (long_of word) h

positional_goes_on : (c : List Rule) (a : Option Rule) (word : Text) (w : Walk) (h : Held) → w.stopped ≡ None → (to_positional c a word w h).stopped ≡ None
positional_goes_on c None word w h going = going
positional_goes_on c (Some a) word w h going = refl

goes_on : (c : List Rule) (word : Text) (w : Walk) (h : Held) (step : Step) → w.stopped ≡ None → Stays step → (after_step c word w h step).stopped ≡ None
goes_on c word w h (next waiting) going stays = going
goes_on c word w h (trailing position) going stays = going
goes_on c word w h (subcommand name) going stays = absurd stays
goes_on c word w h value going stays = positional_goes_on c (arg_by_index c w.position) word w h going

past_if_going : (stopped : Option (Text × List Text)) → stopped ≡ None → IsPast stopped
past_if_going stopped going = subst IsPast (sym going) tt

-- a name that is no fault is not `help`
no_help : (is_help is_off : Bool) (faults : Kinds) (k : ErrorKind) → is_off ≡ false → (if is_help && not is_off then k ∷ faults else []) ≡ [] → is_help ≡ false
no_help true true faults k off none = absurd (grind (arith, off))
no_help true false faults k off none = absurd (grind (arith, none))
no_help false is_off faults k off none = refl

step_past : (s : Shape) (w : Walk) (word : Text) (is_trailing : Bool) (met : Option Text) → s.disable_help_subcommand ≡ false → w.stopped ≡ None
    → (if is_trailing then [] else other_fault s met word w.held) ≡ []
    → IsPast (after_step s.rules word w
    (if is_trailing then (w.held, value) else subcommand_or_other s.rules met w.waiting w.position word w.held).0
    (if is_trailing then (w.held, value) else subcommand_or_other s.rules met w.waiting w.position word w.held).1).stopped
step_past s w word true met has going none = past_if_going _ (goes_on s.rules word w w.held value going tt)
step_past s w word false (Some name) has going none = no_help (bytes_eq name (codes "help")) s.disable_help_subcommand _ _ has none
step_past s w word false None has going none =
    past_if_going _ (goes_on s.rules word w _ _ going (other_stays s.rules w.waiting w.position word w.held (bytes_eq word (45 ∷ 45 ∷ []))))

-- the faults of a turn of a walk that has not stopped
turn_words : (s : Shape) (names : Names) (w : Walk) (word : Text) → w.stopped ≡ None → turn_fault s names w word ≡ []
    → word_fault s names w.is_trailing w.waiting word w.held ≡ []
turn_words s names w word going none =
    first_empty _ _ (subst (λ (stopped : Option (Text × List Text)). (if is_some stopped then [] else or_else
    (word_fault s names w.is_trailing w.waiting word w.held)
    (step_fault s w.position (word_met s.rules names w.is_trailing w.waiting w.position word w.held).0 (word_met s.rules names w.is_trailing w.waiting w.position word w.held).1)) ≡ []) going none)

turn_past : (s : Shape) (names : Names) (stopped : Option (Text × List Text)) (w : Walk) (word : Text) → s.disable_help_subcommand ≡ false → w.stopped ≡ stopped
    → IsPast stopped → turn_fault s names w word ≡ [] → IsPast (walked_from s.rules names stopped w word).stopped
turn_past s names (Some p) w word has is past none = past
turn_past s names None w word has is past none =
    step_past s w word w.is_trailing (subcommand_met names w.waiting word) has is (turn_words s names w word is none)

walk_past : (s : Shape) (names : Names) (w : Walk) (words : List Text) → s.disable_help_subcommand ≡ false → IsPast w.stopped
    → walk_fault s names w words ≡ [] → IsPast (fold (walked s.rules names) w words).stopped
unfolding walk_fault walked
walk_past s names w [] has past none = past
walk_past s names w (word ∷ words) has past none =
    walk_past s names (walked s.rules names w word) words has
    (turn_past s names w.stopped w word has refl past (first_empty _ _ none)) (second_empty _ _ none)

-- ---- the command at which it stops is one of those that have a name

-- a command that has a name here, or `help`
abbrev is_known : Shape → Bool
is_known s = is_some (command_of s.name) || bytes_eq s.name (codes "help") && is_empty s.aliases

without_aliases : (answers : Bool) → (answers || false) ≡ true → answers ≡ true
without_aliases true answered = refl
without_aliases false answered = answered

-- a word that is not `help` is not answered by `help`
help_answers_itself : (s : Shape) (word : Text) → bytes_eq s.name (codes "help") ≡ true → s.aliases ≡ [] → answers_to word (label_of s) ≡ true → bytes_eq word (codes "help") ≡ true
help_answers_itself s word is_help none answers =
    let same : bytes_eq s.name word ≡ true =
    without_aliases _ (subst (λ (aliases : List Text). answers_to word (s.name, aliases) ≡ true) none answers) in
    subst (λ (name : Text). bytes_eq name (codes "help") ≡ true) ((bytes_eq-Decides s.name word).0 same) is_help

known_name : (is_named : Bool) (s : Shape) (word : Text) → (is_named || bytes_eq s.name (codes "help") && is_empty s.aliases) ≡ true → bytes_eq word (codes "help") ≡ false
    → answers_to word (label_of s) ≡ true → is_named ≡ true
known_name true s word known past answers = refl
known_name false s word known past answers =
    let is_help = both (bytes_eq s.name (codes "help")) (is_empty s.aliases) known in
    sym past ∙ help_answers_itself s word is_help.0 (is_nil s.aliases is_help.1) answers

found_name : (answers : Bool) (s : Shape) (others : Option Shape) (word : Text) (words : List Text) (name : Text) (rows : List Row) → answers_to word (label_of s) ≡ answers → is_known s ≡ true
    → bytes_eq word (codes "help") ≡ false → (option_map (λ s. rows_at s words) others ≡ Some (name, rows) → is_some (command_of name) ≡ true)
    → option_map (λ s. rows_at s words) (if answers then Some s else others) ≡ Some (name, rows) → is_some (command_of name) ≡ true
found_name true s others word words name rows is known past later found =
    subst (λ (t : Text). is_some (command_of t) ≡ true) (ap (λ (met : Option (Text × List Row)). (unwrap_or met (name, rows)).0) found)
    (known_name (is_some (command_of s.name)) s word known past is)
found_name false s others word words name rows is known past later found = later found

among_known : (commands : List Shape) (word : Text) (words : List Text) (name : Text) (rows : List Row) → list_all is_known commands ≡ true → bytes_eq word (codes "help") ≡ false
    → option_map (λ s. rows_at s words) (find (λ s. answers_to word (label_of s)) commands) ≡ Some (name, rows) → is_some (command_of name) ≡ true
among_known [] word words name rows known past found = absurd (grind (arith, found))
among_known (s ∷ commands) word words name rows known past found =
    let all = both (is_known s) (list_all is_known commands) known in
    found_name (answers_to word (label_of s)) s (find (λ s. answers_to word (label_of s)) commands) word words name rows refl all.0 past
    (among_known commands word words name rows all.1 past) found

entered_name : (stop : Option (Text × List Text)) (name : Text) (rows : List Row) → IsPast stop → entered (built command_line) stop ≡ Some (name, rows) → is_some (command_of name) ≡ true
unfolding command_line
entered_name None name rows past found = absurd (grind (arith, found))
entered_name (Some p) name rows past found = among_known (built command_line).subs p.0 p.1 name rows refl past found

top_has_help : (built command_line).top.disable_help_subcommand ≡ false
unfolding command_line
top_has_help = refl

command_named : (words : List Text) (name : Text) (rows : List Row) → fault_of command_line words ≡ [] → subcommand_of command_line words ≡ Some (name, rows)
    → is_some (command_of name) ≡ true
command_named words name rows none found =
    entered_name (stop_after (built command_line).top.rules (names_of (built command_line)) (argument_words command_line words)) name rows
    (walk_past (built command_line).top (names_of (built command_line)) (walk_from nothing_held) (argument_words command_line words) top_has_help tt (first_empty _ _ none)) found

named_if_met : (words : List Text) (met : Option (Text × List Row)) → fault_of command_line words ≡ [] → met ≡ subcommand_of command_line words
    → IfSome met (λ found. is_some (command_of found.0) ≡ true)
named_if_met words None none is = tt
named_if_met words (Some found) none is = command_named words found.0 found.1 none (sym is)

-- what a parse that succeeds has met
pub met_is_named : (words : List Text) (result : Result ArgMatches Error) → FailsBy (fault_of command_line words) result
    → IfOk result (λ matches. subcommand_rows_of matches ≡ subcommand_of command_line words)
    → IfOk result (λ matches. IfSome (subcommand_rows_of matches) (λ found. is_some (command_of found.0) ≡ true))
met_is_named words (Ok matches) none has = named_if_met words (subcommand_rows_of matches) none has
met_is_named words (Err error) kinds has = tt
