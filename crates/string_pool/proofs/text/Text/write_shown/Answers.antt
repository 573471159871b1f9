use Rattle.std.proofs.Common.{◌≡◌, ℕ, List, ◌++◌, true, false, refl, ap, ◌∙◌}
use Rattle.std.specs.Prelude.{codes}
use Rattle.string_pool.specs.declared.text.Text.{Text}
use Rattle.string_pool.specs.Shown.{bytes_text, units_text, shown_text}
use Rattle.string_pool.specs.Text.{text_of}
use Rattle.string_pool.specs.Units.{units_in}
use Rattle.string_pool.proofs.WriteSteps.{three_pieces}
use Rattle.string_pool.proofs.text.Text.write_shown.Goals as goal
use Rattle.string_pool.proofs.text.Text.write_shown.Goals.{in-Utf8+in_ok-write_bytes-in-Utf8, in-Utf16+in_ok-write_units-in-Utf16}

shown-utf8 : (bytes : List ℕ) → shown_text (record { utf8 = true; bytes = bytes }) ≡ codes "\"" ++ (bytes_text bytes ++ codes "\"")
unfolding shown_text
shown-utf8 bytes = refl

shown-utf16 : (bytes : List ℕ) → shown_text (record { utf8 = false; bytes = bytes }) ≡ codes "\"" ++ (units_text (units_in bytes) ++ codes "\"")
unfolding shown_text
shown-utf16 bytes = refl

pub returns : goal.returns
returns g c =
    elim c.match-self.branch [
      | in-Utf8+in_ok-write_bytes-in-Utf8 w ↦
          three_pieces _ _ _ _ _ _ _ _ _ c.in_ok-write_all.ensures.bytes w.in_ok-write_bytes-in-Utf8.ensures (rw w.out-is at c.write_all-2.ensures.bytes)
          (ap (λ (text : Text). shown_text (text_of text)) w.in-Utf8.is ∙ shown-utf8 w.in-Utf8.bytes.now)
      | in-Utf16+in_ok-write_units-in-Utf16 w ↦
          three_pieces _ _ _ _ _ _ _ _ _ c.in_ok-write_all.ensures.bytes w.in_ok-write_units-in-Utf16.ensures (rw w.out-is at c.write_all-2.ensures.bytes)
          (ap (λ (text : Text). shown_text (text_of text)) w.in-Utf16.is ∙ shown-utf16 w.in-Utf16.bytes.now)
    ]
