use Rattle.std.proofs.Common.{◌≡◌, ℕ, Bool, List, Vec, Global, filter, get_or, map, sym, ap, ◌∙◌}
use Rattle.std.proofs.lemmas.List.{take_all}
use Rattle.std.specs.Option.{option_map}
use Rattle.res_value.specs.ResId.{package_of}
use Rattle.res_value.specs.declared.res_id.ResId.{ResId}
use Rattle.names.specs.PackageWord.{package_word_of}
use Rattle.names.specs.Packages.{PackageNameOf, is_asked_in, package_name_of}
use Rattle.names.specs.declared.packages.PackageName.{PackageName}
use Rattle.names.proofs.Pushed.{filter-pushed, filter-passed}
use Rattle.names.proofs.finder.Finder.in_package.Goals as goal
use Rattle.names.proofs.finder.Finder.in_package.Goals.{then-is_asked_in+in_ok-push, else-is_asked_in}

pub loop-id-preserved : goal.loop-id-preserved
loop-id-preserved c =
    let all = c.args.self.now.packages.items in
    let word = option_map package_word_of c.args.word in
    let test : ResId → Bool = λ id. is_asked_in (map package_name_of all) word (package_of id) in
    let ids = c.args.ids.now in
    let place = c.loop-id.id-index in
    let id : ResId = get_or ids place (record { 0 = 0 }) in
    let says : test id ≡ c.is_asked_in.result =
    ap (λ (number : ℕ). is_asked_in (map package_name_of all) word number) (sym c.package.ensures)
    ∙ sym (c.is_asked_in.ensures ∙ ap (λ (packages : List PackageName). is_asked_in (map package_name_of packages) word c.package.result) c.deref.ensures.value) in
    elim c.if-is_asked_in.branch [
      | then-is_asked_in+in_ok-push w ↦ filter-pushed test ids place (record { 0 = 0 }) c.loop-id.kept.items _ c.loop-id-test.true c.loop-id.invariant (says ∙ w.if-is_asked_in.true)
          (ap (λ (v : Vec ResId Global). v.items) w.kept-is ∙ w.in_ok-push.ensures.items)
      | else-is_asked_in w ↦ filter-passed test ids place (record { 0 = 0 }) c.loop-id.kept.items _ c.loop-id-test.true c.loop-id.invariant (says ∙ w.if-is_asked_in.false)
          (ap (λ (v : Vec ResId Global). v.items) w.kept-is)
    ]

pub returns : goal.returns
returns c = λ layers names told.
    let word = option_map package_word_of c.args.word in
    let kept = λ (packages : List PackageNameOf) (ids : List ResId). filter (λ id. is_asked_in packages word (package_of id)) ids in
    ap (λ (v : Vec ResId Global). v.items) c.in_ok-new.ensures.ok
    ∙ c.loop-id.invariant
    ∙ ap (kept (map package_name_of c.args.self.now.packages.items)) (take_all c.loop-id.id-index c.args.ids.now c.loop-id-test.false)
    ∙ ap (λ (packages : List PackageNameOf). kept packages c.args.ids.now) told.packages
