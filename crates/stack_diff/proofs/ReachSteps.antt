-- How rows are raised, step by step.
use Rattle.std.proofs.Common.{◌⊎◌, ◌↔◌, inl, inr, ℕ, ◌≤◌, List, Option, refl, ◌∙◌}
use Rattle.stack_diff.specs.declared.row_place.RowPlace.{RowPlace}
use Rattle.stack_diff.specs.declared.row_use.RowUse.{RowUse}
use Rattle.stack_diff.specs.Raising.{level_at, Reaches, KeepsReach, no_more}

-- what is still to be raised, beside something else
abbrev pub beside : (RowPlace → ℕ → Type 0) → (RowPlace → ℕ → Type 0) → RowPlace → ℕ → Type 0
beside more other row level = more row level ⊎ other row level

pub keeps-then : (a b c : List (List (Option RowUse))) (A B C : RowPlace → ℕ → Type 0) → KeepsReach a A b B → KeepsReach b B c C → KeepsReach a A c C
keeps-then a b c A B C first second = record {
  alongside = second.alongside ∙ first.alongside;
  reach = λ row level. (
    (λ h. (first.reach row level).0 ((second.reach row level).0 h)),
    (λ h. (second.reach row level).1 ((first.reach row level).1 h)),
  );
}

-- the same rows, told otherwise
pub keeps-told : (a : List (List (Option RowUse))) (A B : RowPlace → ℕ → Type 0) → ((row : RowPlace) (level : ℕ) → A row level ↔ B row level) → KeepsReach a A a B
keeps-told a A B same = record {
  alongside = refl;
  reach = λ row level. (
    (λ h. elim h [ inl at ↦ inl at | inr more ↦ inr (more.0, (same row level).1 more.1) ]),
    (λ h. elim h [ inl at ↦ inl at | inr more ↦ inr (more.0, (same row level).0 more.1) ]),
  );
}

-- what is asked for is so before and after
pub asked-before : (a b : List (List (Option RowUse))) (A B : RowPlace → ℕ → Type 0) → KeepsReach a A b B → (row : RowPlace) → 1 ≤ level_at b row → 1 ≤ level_at a row
asked-before a b A B keeps row asked = elim ((keeps.reach row 1).0 (inl asked)) [ inl at ↦ at | inr more ↦ more.0 ]

pub asked-after : (a b : List (List (Option RowUse))) (A B : RowPlace → ℕ → Type 0) → KeepsReach a A b B → (row : RowPlace) → 1 ≤ level_at a row → 1 ≤ level_at b row
asked-after a b A B keeps row asked = elim ((keeps.reach row 1).1 (inl asked)) [ inl at ↦ at | inr more ↦ more.0 ]

aside : (a : List (List (Option RowUse))) (A F : RowPlace → ℕ → Type 0) (row : RowPlace) (level : ℕ) → Reaches a A row level → Reaches a (beside A F) row level
aside a A F row level (inl at) = inl at
aside a A F row level (inr more) = inr (more.0, inl more.1)

pub keeps-beside : (a b : List (List (Option RowUse))) (A B F : RowPlace → ℕ → Type 0) → KeepsReach a A b B → KeepsReach a (beside A F) b (beside B F)
keeps-beside a b A B F keeps = record {
  alongside = keeps.alongside;
  reach = λ row level. (before row level, after row level);
}
  where
    before : (row : RowPlace) (level : ℕ) → Reaches b (beside B F) row level → Reaches a (beside A F) row level
    before row level (inl at) = aside a A F row level ((keeps.reach row level).0 (inl at))
    before row level (inr (asked, inl more)) = aside a A F row level ((keeps.reach row level).0 (inr (asked, more)))
    before row level (inr (asked, inr other)) = inr (asked-before a b A B keeps row asked, inr other)

    after : (row : RowPlace) (level : ℕ) → Reaches a (beside A F) row level → Reaches b (beside B F) row level
    after row level (inl at) = aside b B F row level ((keeps.reach row level).1 (inl at))
    after row level (inr (asked, inl more)) = aside b B F row level ((keeps.reach row level).1 (inr (asked, more)))
    after row level (inr (asked, inr other)) = inr (asked-after a b A B keeps row asked, inr other)

-- one after the other
pub keeps-both : (a b c : List (List (Option RowUse))) (A B : RowPlace → ℕ → Type 0) → KeepsReach a A b no_more → KeepsReach b B c no_more → KeepsReach a (beside A B) c no_more
keeps-both a b c A B first second =
    keeps-then a b c (beside A B) (beside no_more B) no_more (keeps-beside a b A no_more B first)
    (keeps-then b b c (beside no_more B) B no_more (keeps-told b (beside no_more B) B (λ row level. ((λ h. elim h [ inl nothing ↦ absurd nothing | inr more ↦ more ]), (λ more. inr more)))) second)

-- nothing has to be raised where all is reached
pub keeps-reached : (a : List (List (Option RowUse))) (A : RowPlace → ℕ → Type 0) → ((row : RowPlace) (level : ℕ) → 1 ≤ level_at a row → A row level → level ≤ level_at a row) → KeepsReach a A a no_more
keeps-reached a A reached = record {
  alongside = refl;
  reach = λ row level. (
    (λ h. elim h [ inl at ↦ inl at | inr more ↦ absurd more.1 ]),
    (λ h. elim h [ inl at ↦ inl at | inr more ↦ inl (reached row level more.0 more.1) ]),
  );
}

-- the first of what is left
pub keeps-first : (a b : List (List (Option RowUse))) (A F : RowPlace → ℕ → Type 0) → KeepsReach a A b no_more → KeepsReach a (beside A F) b F
keeps-first a b A F first =
    keeps-then a b b (beside A F) (beside no_more F) F (keeps-beside a b A no_more F first)
    (keeps-told b (beside no_more F) F (λ row level. ((λ h. elim h [ inl nothing ↦ absurd nothing | inr more ↦ more ]), (λ more. inr more))))
