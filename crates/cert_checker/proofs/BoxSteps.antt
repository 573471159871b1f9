-- Boxes of open paths.
use Rattle.std.proofs.Common.{◌≡◌, Bool, List, [], ◌∷◌, ◌++◌, reverse, ◌∙◌, ap, subst}
use Rattle.std.proofs.lemmas.List.{reverse-append}
use Rattle.cert_tree.specs.box_answers.NumberSet.{SetOf}
use Rattle.cert_tree.specs.box_answers.Members.{set_at, IsBox}
use Rattle.cert_tree.specs.config_box.Halves.{IsHalf}
use Rattle.cert_tree.specs.config_box.Tests.{TestOf}
use Rattle.cert_tree.proofs.config_box.HalfSteps.{marks-self}
use Rattle.cert_checker.specs.Paths.{Path}
use Rattle.cert_checker.specs.OpenBoxes.{IsBoxAt, Stand}
use Rattle.cert_checker.proofs.MarkSteps.{alike-next}

-- ---- the box of a path

pub whole : (sets : List SetOf) → IsBox sets → IsBoxAt sets [] sets
whole sets b = record { is_box = b; members = λ d. ((λ m. (m, tt)), (λ a. a.0)); marks = λ c. marks-self (set_at sets c) }

pub half : (sets part halved : List SetOf) (path : Path) (test : TestOf) (answer : Bool) → IsBoxAt sets path part → IsHalf part test answer halved → IsBoxAt sets ((test, answer) ∷ path) halved
half sets part halved path test answer b h = record {
  is_box = h.is_box;
  members = λ d. (
    (λ m. let r = (h.members d).0 m in let a = (b.members d).0 r.member in (a.0, (r.answers, a.1))),
    (λ a. (h.members d).1 (record { member = (b.members d).1 (a.0, a.1.1); answers = a.1.0 })),
  );
  marks = λ c. alike-next (set_at sets c) (set_at part c) (set_at halved c) (b.marks c) (h.marks c);
}

-- ---- the list of them

pub reverse-push : {X : Type 0} (xs : List X) (x : X) → reverse (xs ++ x ∷ []) ≡ x ∷ reverse xs
reverse-push xs x = reverse-append xs (x ∷ [])

-- the last box stands for the first path
pub popped : (sets part : List SetOf) (before rest : List (List SetOf)) (paths : List Path) → before ≡ rest ++ part ∷ [] → Stand sets (reverse before) paths → Stand sets (part ∷ reverse rest) paths
popped sets part before rest paths e stand = subst (λ (parts : List (List SetOf)). Stand sets parts paths) (ap reverse e ∙ reverse-push rest part) stand

-- two are pushed
pub pushed : (rest mid after : List (List SetOf)) (first second : List SetOf) → mid ≡ rest ++ second ∷ [] → after ≡ mid ++ first ∷ [] → reverse after ≡ first ∷ second ∷ reverse rest
pushed rest mid after first second e f = ap reverse f ∙ reverse-push mid first ∙ ap (λ parts. first ∷ parts) (ap reverse e ∙ reverse-push rest second)
