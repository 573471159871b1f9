-- The end, look-up by look-up, is the end of a chain, and there is no other.
use Rattle.std.proofs.Common.{◌≡◌, ◌⊎◌, ◌≤◌, ◌<◌, ◌-◌, inl, inr, ℕ, zero, suc, List, [], ◌∷◌, length, refl, sym, ◌∙◌, ap, subst, arith}
use Rattle.overlay_map.specs.Layer.{LayerOf}
use Rattle.overlay_map.specs.res_value.declared.res_id.ResId.{ResId}
use Rattle.reference_resolver.specs.declared.end.End.{End}
use Rattle.reference_resolver.specs.declared.end.End.TheVariants.{TooLong}
use Rattle.reference_resolver.specs.declared.next.Next.{Next}
use Rattle.reference_resolver.specs.declared.next.Next.TheVariants.{LookUp, EndsAt}
use Rattle.reference_resolver.specs.Selection.{selected}
use Rattle.reference_resolver.specs.Ends.{next_of, next_within, end_of, RefersTo, EndsHere, IsChain, Ends, IsTheEnd}
use Rattle.reference_resolver.specs.Trace.{look_ups_of}

-- ---- one look-up

end_here : (stack : List LayerOf) (most id : ℕ) (end : End) (d : List ℕ) → EndsHere stack d id end → end_of stack most id d ≡ end
end_here stack zero id end d e = rw e
end_here stack (suc most) id end d e = rw e

end_long : (stack : List LayerOf) (most id target : ℕ) (d : List ℕ) → most ≡ 0 → RefersTo stack d id target → end_of stack most id d ≡ TooLong (record { 0 = target })
end_long stack zero id target d none e = rw e
end_long stack (suc most) id target d none e = absurd (omega arith)

follow : (stack : List LayerOf) (most id target : ℕ) (d : List ℕ) → RefersTo stack d id target → end_of stack (suc most) id d ≡ end_of stack most target d
follow stack most id target d e = rw e

end_more : (stack : List LayerOf) (most id target : ℕ) (d : List ℕ) → 0 < most → RefersTo stack d id target → end_of stack most id d ≡ end_of stack (most - 1) target d
end_more stack zero id target d some e = absurd (omega arith)
end_more stack (suc most) id target d some e = let less : suc most - 1 ≡ most = omega arith in rw (e, less)

-- ---- the ids that are looked up from here on

look_ups_here : (stack : List LayerOf) (most id : ℕ) (end : End) (d : List ℕ) → EndsHere stack d id end → look_ups_of stack most id d ≡ id ∷ []
look_ups_here stack zero id end d e = refl
look_ups_here stack (suc most) id end d e = rw e refl

look_ups_more : (stack : List LayerOf) (most id target : ℕ) (d : List ℕ) → 0 < most → RefersTo stack d id target → look_ups_of stack most id d ≡ id ∷ look_ups_of stack (most - 1) target d
look_ups_more stack zero id target d some e = absurd (omega arith)
look_ups_more stack (suc most) id target d some e = let less : suc most - 1 ≡ most = omega arith in rw (e, less) refl

next_cases : (n : Next) → ((target : ResId) × (n ≡ LookUp target)) ⊎ ((end : End) × (n ≡ EndsAt end))
next_cases (LookUp target) = inl (target, refl)
next_cases (EndsAt end) = inr (end, refl)

-- ---- from a look-up on, where at most so many references may still be followed

-- it is the last, and the end is this
pub ends_within : (stack : List LayerOf) (left id : ℕ) (d : List ℕ) (end : End) → next_within stack left id d ≡ EndsAt end
    → (end_of stack left id d ≡ end) × (look_ups_of stack left id d ≡ id ∷ [])
ends_within stack zero id d end last =
    elim (next_cases (next_of id (selected stack id d))) [
      | inl more ↦ (let long : EndsAt (TooLong more.0) ≡ EndsAt end = rw more.1 at last in (end_long stack zero id more.0.0 d refl more.1 ∙ cc, refl))
      | inr here ↦ (let same : EndsAt here.0 ≡ EndsAt end = rw here.1 at last in (end_here stack zero id here.0 d here.1 ∙ cc, refl))
    ]
ends_within stack (suc left) id d end last = (end_here stack (suc left) id end d last, look_ups_here stack (suc left) id end d last)

-- it leads to the look-up of this id, with one reference fewer
pub goes_on_within : (stack : List LayerOf) (left id : ℕ) (d : List ℕ) (target : ResId) → next_within stack left id d ≡ LookUp target
    → (0 < left) × (end_of stack left id d ≡ end_of stack (left - 1) target.0 d) × (look_ups_of stack left id d ≡ id ∷ look_ups_of stack (left - 1) target.0 d)
goes_on_within stack zero id d target more =
    elim (next_cases (next_of id (selected stack id d))) [
      | inl long ↦ (let no : EndsAt (TooLong long.0) ≡ LookUp target = rw long.1 at more in absurd cc)
      | inr here ↦ (let no : EndsAt here.0 ≡ LookUp target = rw here.1 at more in absurd cc)
    ]
goes_on_within stack (suc left) id d target more =
    (omega arith, end_more stack (suc left) id target.0 d (omega arith) more, look_ups_more stack (suc left) id target.0 d (omega arith) more)

-- ---- there is one

ends : (stack : List LayerOf) (most id : ℕ) (d : List ℕ) → Ends stack id d most (end_of stack most id d)
ends stack zero id d =
    elim (next_cases (next_of id (selected stack id d))) [
      | inl more ↦ ([], id, omega arith, refl, inr (more.0.0, refl, more.1, end_long stack zero id more.0.0 d refl more.1))
      | inr here ↦ ([], id, omega arith, refl, inl (here.1 ∙ ap EndsAt (sym (end_here stack zero id here.0 d here.1))))
    ]
ends stack (suc most) id d =
    elim (next_cases (next_of id (selected stack id d))) [
      | inl more ↦ (let rest = ends stack most more.0.0 d in
          subst (λ (end : End). Ends stack id d (suc most) end) (sym (follow stack most id more.0.0 d more.1)) (
            more.0.0 ∷ rest.0,
            rest.1,
            omega (arith, rest.2),
            (more.1, rest.3),
            elim rest.4 [
              | inl here ↦ inl here
              | inr long ↦ inr (long.0, omega (arith, long.1), long.2, long.3)
            ],
          ))
      | inr here ↦ ([], id, omega arith, refl, inl (here.1 ∙ ap EndsAt (sym (end_here stack (suc most) id here.0 d here.1))))
    ]

-- ---- there is no other

only : (stack : List LayerOf) (most id : ℕ) (d : List ℕ) (ids : List ℕ) (last : ℕ) (end : End) → length ids ≤ most → IsChain stack d id ids last
    → (EndsHere stack d last end ⊎ ((target : ℕ) × (length ids ≡ most) × RefersTo stack d last target × (end ≡ TooLong (record { 0 = target }))))
    → end ≡ end_of stack most id d
only stack most id d [] last end few chain (inl here) = sym (end_here stack most id end d (subst (λ (i : ℕ). EndsHere stack d i end) (sym chain) here))
only stack most id d [] last end few chain (inr long) = long.3 ∙ sym (end_long stack most id long.0 d (sym long.1) (subst (λ (i : ℕ). RefersTo stack d i long.0) (sym chain) long.2))
only stack zero id d (next ∷ ids) last end few chain how = absurd (omega arith)
only stack (suc most) id d (next ∷ ids) last end few chain (inl here) = only stack most next d ids last end (omega arith) chain.1 (inl here) ∙ sym (follow stack most id next d chain.0)
only stack (suc most) id d (next ∷ ids) last end few chain (inr long) = only stack most next d ids last end (omega arith) chain.1 (inr (long.0, omega (arith, long.1), long.2, long.3)) ∙ sym (follow stack most id next d chain.0)

pub is_the_end : (stack : List LayerOf) (most id : ℕ) (d : List ℕ) (end : End) → end ≡ end_of stack most id d → IsTheEnd stack id d most end
is_the_end stack most id d end e = subst (λ (x : End). IsTheEnd stack id d most x) (sym e) (record {
  ends = ends stack most id d;
  only = λ other h. only stack most id d h.0 h.1 other h.2 h.3 h.4;
})
