use Rattle.std.proofs.Common.{ℕ, ◌<◌, List, [], ◌∷◌, length, map, string_bytes, Result, arith}
use Rattle.restool.specs.Request.{AsksFor, ReadsCommandLine}
use Rattle.restool.specs.declared.request.Request.{Request}
use Rattle.restool.specs.declared.words_fault.WordsFault.{WordsFault}
use Rattle.restool.proofs.words.read_words.Goals as goal

-- words behind the program's name are those of a command
asks : {A : Type 0} (bytes : A → List ℕ) (words : List A) (read : Result Request WordsFault) → 1 < length words → ReadsCommandLine (map bytes words) read → AsksFor (map bytes words) read
asks bytes (name ∷ word ∷ words) read some reads = reads
asks bytes (name ∷ []) read some reads = absurd (omega arith)
asks bytes [] read some reads = absurd (omega arith)

pub returns : goal.returns
returns c = asks string_bytes c.args.words.now c.read_command.result c.if-words-le1.false c.read_command.ensures
