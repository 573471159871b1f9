use Rattle.std.proofs.Common.{◌≡◌, map, drop}
use Rattle.std.specs.List.{list_all}
use Rattle.names.specs.LabelText.{is_apps}
use Rattle.names.specs.Packages.{package_name_of}
use Rattle.names.proofs.label_text.are_apps.Given as goal

-- each package so far is an app's
abbrev pub invariant-packages : goal.invariant-packages
invariant-packages l = list_all is_apps (map package_name_of (drop l.package-index l.packages)) ≡ list_all is_apps (map package_name_of l.packages)
