use Rattle.std.proofs.Common.{sym, subst}
use Rattle.json_tokens.specs.Standing.{value_at}
use Rattle.json_tokens.specs.Reads.{ReadsOr}
use Rattle.box_answers.specs.config_record.declared.coord.Coord.{Coord}
use Rattle.config_box.specs.declared.box_fault.BoxFault.TheVariants.{Syntax, OutOfMemory}
use Rattle.config_box.specs.Written as written
use Rattle.config_box.specs.Kept.{kept_at}
use Rattle.config_box.specs.BoxSeen.{read_seen}
use Rattle.config_box.proofs.TokenSteps.{elsewhere-kept}
use Rattle.config_box.proofs.written.value_at.Goals as goal

pub returns-in-Locale-clause-value : goal.returns-in-Locale-clause-value
unfolding written.value_at
returns-in-Locale-clause-value c =
    subst (λ (at : Coord). ReadsOr Syntax OutOfMemory read_seen (kept_at at) (value_at c.args.depth c.args.tokens.now) c.texts_in.result c.texts_in.new.tokens) (sym c.in-Locale.is) c.texts_in.ensures.value

pub returns-in_default-clause-value : goal.returns-in_default-clause-value
returns-in_default-clause-value c =
    subst (λ meant. ReadsOr Syntax OutOfMemory read_seen meant (value_at c.args.depth c.args.tokens.now) c.numbers_in.result c.numbers_in.new.tokens) (elsewhere-kept c.args.at c.in_default.not-Locale)
    c.numbers_in.ensures.value
