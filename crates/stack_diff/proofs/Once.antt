-- Which of some boxes has a device, where boxes are put together, parted or moved.
use Rattle.std.proofs.Common.{◌≡◌, ℕ, ◌⊎◌, inl, inr, Bool, true, false, List, [], ◌∷◌, ◌++◌, sym, ◌∙◌, subst}
use Rattle.std.proofs.lemmas.Bool.{cases_Bool}
use Rattle.cert_maker.specs.box_answers.NumberSet.{SetOf}
use Rattle.cert_maker.specs.box_answers.Members.{IsMember}
use Rattle.cert_maker.specs.config_box.Tests.{TestOf, answers}
use Rattle.cert_maker.specs.config_box.Halves.{IsHalf}
use Rattle.config_box.specs.Devices.{HasNone, HasOnce}
use Rattle.stack_diff.specs.Once.{KeepsEach}

-- ---- lists that are put together

pub none-both : (d : List ℕ) (xs ys : List (List SetOf)) → HasNone d xs → HasNone d ys → HasNone d (xs ++ ys)
none-both d [] ys a b = b
none-both d (x ∷ xs) ys a b = (a.0, none-both d xs ys a.1 b)

pub none-parts : (d : List ℕ) (xs ys : List (List SetOf)) → HasNone d (xs ++ ys) → HasNone d xs × HasNone d ys
none-parts d [] ys h = (tt, h)
none-parts d (x ∷ xs) ys h = let r = none-parts d xs ys h.1 in ((h.0, r.0), r.1)

pub once-left : (d : List ℕ) (xs ys : List (List SetOf)) → HasOnce d xs → HasNone d ys → HasOnce d (xs ++ ys)
once-left d [] ys a b = absurd a
once-left d (x ∷ xs) ys (inl a) b = inl (a.0, none-both d xs ys a.1 b)
once-left d (x ∷ xs) ys (inr a) b = inr (a.0, once-left d xs ys a.1 b)

pub once-right : (d : List ℕ) (xs ys : List (List SetOf)) → HasNone d xs → HasOnce d ys → HasOnce d (xs ++ ys)
once-right d [] ys a b = b
once-right d (x ∷ xs) ys a b = inr (a.0, once-right d xs ys a.1 b)

pub once-parts : (d : List ℕ) (xs ys : List (List SetOf)) → HasOnce d (xs ++ ys) → (HasOnce d xs × HasNone d ys) ⊎ (HasNone d xs × HasOnce d ys)
once-parts d [] ys h = inr (tt, h)
once-parts d (x ∷ xs) ys (inl h) = let r = none-parts d xs ys h.1 in inl (inl (h.0, r.0), r.1)
once-parts d (x ∷ xs) ys (inr h) =
    elim (once-parts d xs ys h.1) [
      | inl r ↦ inl (inr (h.0, r.0), r.1)
      | inr r ↦ inr ((h.0, r.0), r.1)
    ]

-- ---- lists that keep each device

pub keeps-all : (xs : List (List SetOf)) → KeepsEach xs xs
keeps-all xs = record { none = λ d h. h; once = λ d h. h }

pub keeps-same : (xs ys : List (List SetOf)) → ys ≡ xs → KeepsEach xs ys
keeps-same xs ys e = subst (λ (zs : List (List SetOf)). KeepsEach xs zs) (sym e) (keeps-all xs)

pub keeps-on : (xs ys zs : List (List SetOf)) → KeepsEach xs ys → KeepsEach ys zs → KeepsEach xs zs
keeps-on xs ys zs a b = record { none = λ d h. b.none d (a.none d h); once = λ d h. b.once d (a.once d h) }

pub keeps-behind : (front xs ys : List (List SetOf)) → KeepsEach xs ys → KeepsEach (front ++ xs) (front ++ ys)
keeps-behind front xs ys k = record {
  none = λ d h. let r = none-parts d front xs h in none-both d front ys r.0 (k.none d r.1);
  once = λ d h. elim (once-parts d front xs h) [
    | inl r ↦ once-left d front ys r.0 (k.none d r.1)
    | inr r ↦ once-right d front ys r.0 (k.once d r.1)
  ];
}

pub keeps-before : (xs ys behind : List (List SetOf)) → KeepsEach xs ys → KeepsEach (xs ++ behind) (ys ++ behind)
keeps-before xs ys behind k = record {
  none = λ d h. let r = none-parts d xs behind h in none-both d ys behind (k.none d r.0) r.1;
  once = λ d h. elim (once-parts d xs behind h) [
    | inl r ↦ once-left d ys behind (k.once d r.0) r.1
    | inr r ↦ once-right d ys behind (k.none d r.0) r.1
  ];
}

pub keeps-turned : (xs ys : List (List SetOf)) → KeepsEach (xs ++ ys) (ys ++ xs)
keeps-turned xs ys = record {
  none = λ d h. let r = none-parts d xs ys h in none-both d ys xs r.1 r.0;
  once = λ d h. elim (once-parts d xs ys h) [
    | inl r ↦ once-right d ys xs r.1 r.0
    | inr r ↦ once-left d ys xs r.1 r.0
  ];
}

-- ---- halves

in-no-half : (d : List ℕ) (part half : List SetOf) (test : TestOf) (answer other : Bool) → IsHalf part test answer half → answers test d ≡ other → (answer ≡ other → ⊥) → IsMember half d → ⊥
in-no-half d part half test answer other h is differ m = differ (sym ((h.members d).0 m).answers ∙ is)

once-halved : (d : List ℕ) (part yes_half no_half : List SetOf) (test : TestOf) → IsHalf part test true yes_half → IsHalf part test false no_half → IsMember part d → HasOnce d (no_half ∷ yes_half ∷ [])
once-halved d part yes_half no_half test y n m =
    elim (cases_Bool (answers test d)) [
      | inl is ↦ inr (in-no-half d part no_half test false true n is (λ e. cc), inl ((y.members d).1 (record { member = m; answers = is }), tt))
      | inr isnt ↦ inl ((n.members d).1 (record { member = m; answers = isnt }), (in-no-half d part yes_half test true false y isnt (λ e. cc), tt))
    ]

pub keeps-halves : (part yes_half no_half : List SetOf) (test : TestOf) → IsHalf part test true yes_half → IsHalf part test false no_half → KeepsEach (part ∷ []) (no_half ∷ yes_half ∷ [])
keeps-halves part yes_half no_half test y n = record {
  none = λ d h. ((λ m. h.0 ((n.members d).0 m).member), ((λ m. h.0 ((y.members d).0 m).member), tt));
  once = λ d h. elim h [
    | inl r ↦ once-halved d part yes_half no_half test y n r.0
    | inr r ↦ absurd r.1
  ];
}
