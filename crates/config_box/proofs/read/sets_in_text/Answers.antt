use Rattle.std.proofs.Common.{◌≡◌, List, Result, sym, ap, subst, ◌∙◌}
use Rattle.std.proofs.lemmas.Result.{err_from_is_err_and}
use Rattle.contract_words.specs.Exact.{GivesOr}
use Rattle.contract_words.specs.Faults.{◌>>=◌}
use Rattle.json_input.specs.Each.{each}
use Rattle.box_answers.specs.NumberSet.{SetOf}
use Rattle.box_answers.specs.Members.{sets_of}
use Rattle.config_box.specs.declared.box_fault.BoxFault.{BoxFault}
use Rattle.config_box.specs.declared.box_fault.BoxFault.TheVariants.{OutOfMemory}
use Rattle.config_box.specs.BoxJson.{set_in, box_in_by}
use Rattle.config_box.specs.BoxSeen.{slots_seen, sets_in_slots}
use Rattle.config_box.proofs.KeptSteps.{box-whole, box-followed}
use Rattle.config_box.proofs.read.sets_in_text.Goals as goal

pub returns-in_err-end-clause-value : goal.returns-in_err-end-clause-value
returns-in_err-end-clause-value c =
    let opened = c.in_ok-tokens.ensures in
    let followed = box-followed c.args.rule c.args.json.now c.in_ok-tokens.tokens c.slots_in.new.tokens (slots_seen c.in_ok-slots.slots) opened.0 opened.1 c.in_ok-slots.ensures.value c.in_err-end.ensures in
    let p = err_from_is_err_and c.from_residual-in_err-end.result c.from_residual-in_err-end.ensures.1 in
    rw (p.1, p.2) (λ other. followed)

pub returns-in_default-clause-value : goal.returns-in_default-clause-value
returns-in_default-clause-value c other =
    let opened = c.in_ok-tokens.ensures in
    box-whole c.args.rule c.args.json.now c.in_ok-tokens.tokens c.slots_in.new.tokens (slots_seen c.in_ok-slots.slots) opened.0 opened.1 c.in_ok-slots.ensures.value c.in_ok-end.ensures
    ∙ ap (λ slots. slots_seen slots >>= each (set_in c.args.rule)) c.in_default.is

pub returns-clause-value : goal.returns-clause-value
returns-clause-value c =
    let opened = c.in_ok-tokens.ensures in
    let same : box_in_by c.args.rule c.args.json.now ≡ sets_in_slots c.args.rule c.as_slice.result.now =
    box-whole c.args.rule c.args.json.now c.in_ok-tokens.tokens c.slots_in.new.tokens (slots_seen c.in_ok-slots.slots) opened.0 opened.1 c.in_ok-slots.ensures.value c.in_ok-end.ensures
    ∙ ap (λ slots. slots_seen slots >>= each (set_in c.args.rule)) c.in-Some.is
    ∙ ap (sets_in_slots c.args.rule) (sym c.as_slice.ensures.value) in
    subst (λ (meant : Result (List SetOf) BoxFault). GivesOr OutOfMemory (λ sets. sets_of sets.items) c.sets_of_slots.result meant) (sym same) c.sets_of_slots.ensures.value
