use Rattle.std.proofs.Common.{ℕ, List, ◌++◌, map, ap, sym, ◌∙◌, append_assoc}
use Rattle.std.specs.Prelude.{codes}
use Rattle.res_value.specs.declared.res_id.ResId.{ResId}
use Rattle.res_value.specs.ResId.{package_of}
use Rattle.names.specs.NameFault.{two_resources}
use Rattle.names.specs.Names.{WantedOf, wanted_in_package, wanted_of}
use Rattle.names.specs.Packages.{package_name_of}
use Rattle.names.specs.WordText.{both_names, package_word_for, two_text, wanted_text}
use Rattle.names.proofs.fault.NameFault.two.Goals as goal

pub returns-in-Ok : goal.returns-in-Ok
unfolding two_text both_names
returns-in-Ok c = λ _.
    let packages = map package_name_of c.args.packages.now in
    let wanted = wanted_of c.args.wanted in
    let called = λ (id : ResId). wanted_text (wanted_in_package wanted (package_word_for packages (package_of id))) in
    let told = λ (name other : List ℕ). wanted_text wanted ++ (codes ": " ++ (name ++ (codes ", " ++ other))) in
    let first = ap (λ (name : WantedOf). wanted_text name) (c.in_package-first.ensures ∙ ap (wanted_in_package wanted) (c.package_word_for.ensures ∙ ap (package_word_for packages) c.package.ensures)) in
    let other = ap (λ (name : WantedOf). wanted_text name) (c.in_package-other.ensures ∙ ap (wanted_in_package wanted) (c.package_word_for-2.ensures ∙ ap (package_word_for packages) c.package-2.ensures)) in
    ap (λ (t : List ℕ). two_resources t)
    (c.in-Ok.ensures.ok
    ∙ ap (λ (name : List ℕ). told name (wanted_text (wanted_of c.in_package-other.result))) first
    ∙ ap (told (called c.args.first)) other
    ∙ ap (λ (names : List ℕ). wanted_text wanted ++ (codes ": " ++ names)) (sym (append_assoc (called c.args.first) (codes ", ") (called c.args.other)))
    ∙ sym (append_assoc (wanted_text wanted) (codes ": ") ((called c.args.first ++ codes ", ") ++ called c.args.other)))
