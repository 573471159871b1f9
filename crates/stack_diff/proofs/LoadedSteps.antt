-- Which rows the members of boxes load.
use Rattle.std.proofs.Common.{◌≡◌, ◌⊎◌, ◌↔◌, inl, inr, ℕ, ◌≤◌, Bool, true, false, List, [], ◌∷◌, ◌++◌, Option, Some, None, refl, sym, ap, ◌∙◌, subst}
use Rattle.config_box.specs.box_answers.NumberSet.{SetOf}
use Rattle.config_box.specs.box_answers.Members.{IsMember}
use Rattle.config_box.specs.Tests.{TestOf, answers}
use Rattle.config_box.specs.Halves.{IsHalf}
use Rattle.stack_diff.specs.declared.row_place.RowPlace.{RowPlace}
use Rattle.stack_diff.specs.declared.row_use.RowUse.{RowUse}
use Rattle.stack_diff.specs.Loading.{IsLoadedBy}
use Rattle.stack_diff.specs.Raising.{KeepsReach, no_more, one_more, IsLoadedInOne, loaded_more}
use Rattle.stack_diff.proofs.ReachSteps.{beside, keeps-then, keeps-told, keeps-beside}

-- ---- boxes

in-append : (loads : List ℕ → Option RowPlace) (row : RowPlace) (boxes others : List (List SetOf)) → IsLoadedInOne loads row (boxes ++ others) ↔ (IsLoadedInOne loads row others ⊎ IsLoadedInOne loads row boxes)
in-append loads row [] others = ((λ h. inl h), (λ h. elim h [ inl there ↦ there | inr nowhere ↦ absurd nowhere ]))
in-append loads row (sets ∷ boxes) others =
    let rest = in-append loads row boxes others in (
      (λ h. elim h [ inl here ↦ inr (inl here) | inr more ↦ elim (rest.0 more) [ inl there ↦ inl there | inr one ↦ inr (inr one) ] ]),
      (λ h. elim h [
        | inl there ↦ inr (rest.1 (inl there))
        | inr mine ↦ elim mine [ inl here ↦ inl here | inr one ↦ inr (rest.1 (inr one)) ]
      ]),
    )

-- the members of a box are those of its halves
in-halves : (loads : List ℕ → Option RowPlace) (row : RowPlace) (sets yes_half no_half : List SetOf) (test : TestOf) → IsHalf sets test true yes_half → IsHalf sets test false no_half
    → IsLoadedBy loads row sets ↔ (IsLoadedBy loads row no_half ⊎ IsLoadedBy loads row yes_half)
in-halves loads row sets yes_half no_half test is_yes is_no = (
  (λ h. by h (answers test h.0) refl),
  (λ h. elim h [ inl some ↦ (some.0, ((is_no.members some.0).0 some.1).member, some.2) | inr some ↦ (some.0, ((is_yes.members some.0).0 some.1).member, some.2) ]),
)
  where
    by : (h : IsLoadedBy loads row sets) (b : Bool) → answers test h.0 ≡ b → IsLoadedBy loads row no_half ⊎ IsLoadedBy loads row yes_half
    by h true e = inr (h.0, (is_yes.members h.0).1 (record { member = h.1; answers = e }), h.2)
    by h false e = inl (h.0, (is_no.members h.0).1 (record { member = h.1; answers = e }), h.2)

-- ---- an open box

-- what is still to be raised, of one box and of those before it
of-last : (loads : List ℕ → Option RowPlace) (to : ℕ) (boxes : List (List SetOf)) (part : List SetOf) (row : RowPlace) (level : ℕ)
    → loaded_more loads to (boxes ++ part ∷ []) row level ↔ beside (λ r n. IsLoadedBy loads r part × (n ≤ to)) (loaded_more loads to boxes) row level
of-last loads to boxes part row level =
    let parts = in-append loads row boxes (part ∷ []) in (
      (λ h. elim (parts.0 h.0) [
        | inl there ↦ elim there [ inl mine ↦ inl (mine, h.1) | inr nowhere ↦ absurd nowhere ]
        | inr one ↦ inr (one, h.1)
      ]),
      (λ h. elim h [ inl mine ↦ (parts.1 (inl (inl mine.0)), mine.1) | inr one ↦ (parts.1 (inr one.0), one.1) ]),
    )

-- where all members load one row, and it is raised
pub leaf-raised : (old new : List (List (Option RowUse))) (loads : List ℕ → Option RowPlace) (to : ℕ) (boxes : List (List SetOf)) (part : List SetOf) (corner : List ℕ) (found : RowPlace)
    → ((d : List ℕ) → IsMember part d → loads d ≡ loads corner) → IsMember part corner → loads corner ≡ Some found → KeepsReach old (one_more found to) new no_more
    → KeepsReach old (loaded_more loads to (boxes ++ part ∷ [])) new (loaded_more loads to boxes)
leaf-raised old new loads to boxes part corner found same member is raised =
    let F = loaded_more loads to boxes in
    keeps-then old old new (loaded_more loads to (boxes ++ part ∷ [])) (beside (one_more found to) F) F
    (keeps-told old _ _ (λ row level. (
      (λ h. elim ((of-last loads to boxes part row level).0 h) [
        | inl mine ↦ inl ((let e : Some row ≡ Some found = sym mine.0.2 ∙ same mine.0.0 mine.0.1 ∙ is in cc), mine.1)
        | inr one ↦ inr one
      ]),
      (λ h. (of-last loads to boxes part row level).1 (elim h [
        | inl mine ↦ inl ((corner, member, is ∙ ap (λ (r : RowPlace). Some r) (sym mine.0)), mine.1)
        | inr one ↦ inr one
      ])),
    )))
    (keeps-then old new new (beside (one_more found to) F) (beside no_more F) F (keeps-beside old new (one_more found to) no_more F raised)
    (keeps-told new (beside no_more F) F (λ row level. ((λ h. elim h [ inl nothing ↦ absurd nothing | inr one ↦ one ]), (λ one. inr one)))))

-- where they load none
pub leaf-passed : (old : List (List (Option RowUse))) (loads : List ℕ → Option RowPlace) (to : ℕ) (boxes : List (List SetOf)) (part : List SetOf) (corner : List ℕ)
    → ((d : List ℕ) → IsMember part d → loads d ≡ loads corner) → loads corner ≡ None
    → KeepsReach old (loaded_more loads to (boxes ++ part ∷ [])) old (loaded_more loads to boxes)
leaf-passed old loads to boxes part corner same is =
    keeps-told old _ _ (λ row level. (
      (λ h. elim ((of-last loads to boxes part row level).0 h) [
        | inl mine ↦ absurd (let e : Some row ≡ None = sym mine.0.2 ∙ same mine.0.0 mine.0.1 ∙ is in cc)
        | inr one ↦ one
      ]),
      (λ one. (of-last loads to boxes part row level).1 (inr one)),
    ))

-- where its halves are opened
pub test-opened : (old : List (List (Option RowUse))) (loads : List ℕ → Option RowPlace) (to : ℕ) (boxes : List (List SetOf)) (part yes_half no_half : List SetOf) (test : TestOf)
    → IsHalf part test true yes_half → IsHalf part test false no_half
    → KeepsReach old (loaded_more loads to (boxes ++ part ∷ [])) old (loaded_more loads to (boxes ++ no_half ∷ yes_half ∷ []))
test-opened old loads to boxes part yes_half no_half test is_yes is_no =
    keeps-told old _ _ (λ row level.
    let halves = in-halves loads row part yes_half no_half test is_yes is_no in
    let whole = in-append loads row boxes (part ∷ []) in
    let opened = in-append loads row boxes (no_half ∷ yes_half ∷ []) in (
      (λ h. (
        opened.1 (elim (whole.0 h.0) [
          | inl there ↦ elim there [
            | inl mine ↦ elim (halves.0 mine) [ inl a ↦ inl (inl a) | inr b ↦ inl (inr (inl b)) ]
            | inr nowhere ↦ absurd nowhere
          ]
          | inr one ↦ inr one
        ]),
        h.1,
      )),
      (λ h. (
        whole.1 (elim (opened.0 h.0) [
          | inl there ↦ elim there [
            | inl a ↦ inl (inl (halves.1 (inl a)))
            | inr more ↦ elim more [ inl b ↦ inl (inl (halves.1 (inr b))) | inr nowhere ↦ absurd nowhere ]
          ]
          | inr one ↦ inr one
        ]),
        h.1,
      )),
    ))

-- where no box is open
pub none-left : (cells : List (List (Option RowUse))) (loads : List ℕ → Option RowPlace) (to : ℕ) (boxes : List (List SetOf)) → boxes ≡ [] → KeepsReach cells (loaded_more loads to boxes) cells no_more
none-left cells loads to boxes none = keeps-told cells (loaded_more loads to boxes) no_more (λ row level. (
  (λ more. subst (IsLoadedInOne loads row) none more.0),
  (λ nothing. absurd nothing),
))
