use Rattle.std.proofs.Common.{ℕ, Bool, ◌≡◌, ◌<◌, length, sym, ap, ◌∙◌, arith}
use Rattle.std.specs.Prelude.{◌==◌, ◌&&◌, if◌then◌else◌}
use Rattle.std.proofs.lemmas.Result.{on_ok_weaker}
use Rattle.type_chunks.specs.res_value.ResId.{package_of, type_of, entry_of}
use Rattle.overlay_map.specs.Heads.{head_of_type}
use Rattle.overlay_map.proofs.HeadSteps.{number_at, number_at-changed, id-parts}
use Rattle.overlay_map.proofs.heads.Heads.set.Goals as goal

pub returns : goal.returns
returns c = on_ok_weaker c.set.result (λ sets other.
    let made = c.make_package.new.self.by_package.items in
    let package_id : c.from.result ≡ package_of c.args.id = c.from.ensures ∙ c.package-package_id.ensures in
    let within : c.from.result < length made = omega (arith, c.in_ok-make_package.ensures.there, c.from.ensures) in
    let changed = number_at-changed {K = ℕ × ℕ} (λ key found. head_of_type found key.0 key.1) (λ key. c.type_id.result == key.0 && c.entry.result == key.1) made c.from.result c.index_mut.result.now c.set.new.self c.args.head within c.index_mut.ensures.value
    (λ key. sets key.0 key.1) (package_of (record { 0 = other })) (type_of (record { 0 = other }), entry_of (record { 0 = other })) in
    let p = package_of (record { 0 = other }) in
    let t = type_of (record { 0 = other }) in
    let e = entry_of (record { 0 = other }) in
    let before = number_at (λ found. head_of_type found t e) made p in
    changed
    ∙ ap (λ (n : ℕ). if n == p && (c.type_id.result == t && c.entry.result == e) then c.args.head else before) package_id
    ∙ ap (λ (n : ℕ). if package_of c.args.id == p && (n == t && c.entry.result == e) then c.args.head else before) c.type_id.ensures
    ∙ ap (λ (n : ℕ). if package_of c.args.id == p && (type_of c.args.id == t && n == e) then c.args.head else before) c.entry.ensures
    ∙ ap (λ (b : Bool). if b then c.args.head else before) (sym (id-parts c.args.id.0 other))
    ∙ ap (λ (n : ℕ). if c.args.id.0 == other then c.args.head else n) (c.in_ok-make_package.ensures.same other)) c.set.ensures
