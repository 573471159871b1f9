-- What is kept of a record's script and variant, beside its language and its region: four bytes that say what a rule may ask.
use Rattle.std.specs.Prelude.{ℕ, ◌+◌, ◌&&◌, not, nat_lt, Bool, true, false, if◌then◌else◌, List, [], ◌∷◌, slice_index}
use Rattle.locales.specs.Zero.{is_zero}
use Rattle.locales.specs.Locale.{no_script}

-- a script that no device has
abbrev pub other_script : List ℕ
other_script = 0 ∷ 0 ∷ 0 ∷ 1 ∷ []

-- none, and Android has looked for one (AOSP: localeScriptWasComputed)
abbrev pub looked_for : List ℕ
looked_for = 0 ∷ 0 ∷ 0 ∷ 2 ∷ []

-- A script of a device begins with a letter or, of a pseudolocale, with ~. Of others it is enough to know that they are there.
abbrev pub own_script : List ℕ → Bool → List ℕ
own_script script was_computed =
    if is_zero script then (if was_computed then looked_for else no_script)
    else if nat_lt 0 (slice_index script 0) && nat_lt (slice_index script 0) 128 then script
    else other_script

-- bit 7 of the first byte says that there is a variant
abbrev pub with_variant : Bool → List ℕ → List ℕ
with_variant true (first ∷ bytes) = (first + 128) ∷ bytes
with_variant true [] = []
with_variant false bytes = bytes

unfoldable pub kept_script : List ℕ → List ℕ → Bool → List ℕ
kept_script script variant was_computed = with_variant (not (is_zero variant)) (own_script script was_computed)
