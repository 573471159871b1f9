-- Candidates that are judged by all members of a box.
use Rattle.std.proofs.Common.{arith, ◌≡◌, ◌<◌, ◌+◌, ◌-◌, ℕ, Bool, true, false, IsTrue, List, [], ◌∷◌, ◌++◌, map, take, drop, length, get_or, append_assoc, append-nil, sym, ◌∙◌, ap, subst}
use Rattle.std.proofs.lemmas.List.{map-append, drop-map, drop_more, take_all, length-drop}
use Rattle.std.specs.List.{All}
use Rattle.std.proofs.lemmas.List.Elements.{All-nil, All-push, All-weaker, All-head, All-drop}
use Rattle.config_box.specs.box_answers.MemberAnswers.{AllAnswer}
use Rattle.bags_themes.specs.overlay_map.declared.candidate.Cand.{Cand}
use Rattle.bags_themes.specs.overlay_map.Candidates.{CandOf}
use Rattle.box_trace.specs.Live.{LiveOf, live_of, candidates_in, does_match, LeavesOut, MarkedMatchAll, IsLive, AreLive}
use Rattle.box_trace.proofs.LeftOut.{leave_last, keep_last}

pub none_live : (members : List ℕ → Type 0) → AreLive members [] []
none_live members = record { others = tt; each = All-nil (IsLive members) }

-- one candidate more, which matches no member
pub live_without : (members : List ℕ → Type 0) (all : List CandOf) (live : List LiveOf) (candidate : CandOf) → AllAnswer members (does_match candidate) false → AreLive members all live → AreLive members (all ++ candidate ∷ []) live
live_without members all live candidate none are = record { others = leave_last members all (candidates_in live) candidate none are.others; each = are.each }

-- one more, which matches some
pub live_with : (members : List ℕ → Type 0) (all : List CandOf) (live : List LiveOf) (l : LiveOf) → IsLive members l → AreLive members all live → AreLive members (all ++ l.candidate ∷ []) (live ++ l ∷ [])
live_with members all live l is are = record {
  others =
      subst (λ (kept : List CandOf). LeavesOut members (all ++ l.candidate ∷ []) kept) (sym (map-append (λ (k : LiveOf). k.candidate) live (l ∷ [])))
      (keep_last members all (candidates_in live) l.candidate are.others);
  each = All-push (IsLive members) live l are.each is;
}

pub marked_live : (members : List ℕ → Type 0) (all : List CandOf) (live : List LiveOf) → AreLive members all live → MarkedMatchAll members live
marked_live members all live are = All-weaker (IsLive members) (λ l. IsTrue l.marked → AllAnswer members (does_match l.candidate) true) (λ l is. is.mark.0) live are.each

-- what is marked matches fewer members too
pub marked_fewer : (members fewer : List ℕ → Type 0) → ((d : List ℕ) → fewer d → members d) → (live : List LiveOf) → MarkedMatchAll members live → MarkedMatchAll fewer live
marked_fewer members fewer into live marked =
    let matches_all : (List ℕ → Type 0) → LiveOf → Type 0 = λ some l. IsTrue l.marked → AllAnswer some (does_match l.candidate) true in
    All-weaker (matches_all members) (matches_all fewer) (λ l matches is d f. matches is d (into d f)) live marked

-- ---- a list that is made candidate by candidate

-- of these candidates those before the ones ahead have been judged
pub record JudgedTo (members : List ℕ → Type 0) (all ahead : List CandOf) (live : List LiveOf) : Type 0 where
  pub seen : List CandOf
  pub parts : all ≡ seen ++ ahead
  pub are : AreLive members seen live

pub judged_none : (members : List ℕ → Type 0) (all ahead : List CandOf) (live : List LiveOf) → all ≡ ahead → live ≡ [] → JudgedTo members all ahead live
judged_none members all ahead live e none = record { seen = []; parts = e; are = subst (AreLive members []) (sym none) (none_live members) }

pub judged_out : (members : List ℕ → Type 0) (all ahead more : List CandOf) (live : List LiveOf) (candidate : CandOf) → ahead ≡ candidate ∷ more → AllAnswer members (does_match candidate) false → JudgedTo members all ahead live → JudgedTo members all more live
judged_out members all ahead more live candidate e none to = record {
  seen = to.seen ++ candidate ∷ [];
  parts = to.parts ∙ ap (λ (k : List CandOf). to.seen ++ k) e ∙ sym (append_assoc to.seen (candidate ∷ []) more);
  are = live_without members to.seen live candidate none to.are;
}

pub judged_in : (members : List ℕ → Type 0) (all ahead more : List CandOf) (live after : List LiveOf) (l : LiveOf) → ahead ≡ l.candidate ∷ more → after ≡ live ++ l ∷ [] → IsLive members l
    → JudgedTo members all ahead live → JudgedTo members all more after
judged_in members all ahead more live after l e pushed is to = record {
  seen = to.seen ++ l.candidate ∷ [];
  parts = to.parts ∙ ap (λ (k : List CandOf). to.seen ++ k) e ∙ sym (append_assoc to.seen (l.candidate ∷ []) more);
  are = subst (AreLive members (to.seen ++ l.candidate ∷ [])) (sym pushed) (live_with members to.seen live l is to.are);
}

pub judged_all : (members : List ℕ → Type 0) (all ahead : List CandOf) (live : List LiveOf) → ahead ≡ [] → JudgedTo members all ahead live → AreLive members all live
judged_all members all ahead live none to =
    subst (λ (k : List CandOf). AreLive members k live) (sym (to.parts ∙ ap (λ (k : List CandOf). to.seen ++ k) none ∙ append-nil to.seen)) to.are

-- ---- the next one of a list

pub next_live : (items : List (Cand × Bool)) (live : List LiveOf) (k : ℕ) (x : Cand × Bool) → map live_of items ≡ live → k < length items → x ≡ get_or items k x → drop k live ≡ live_of x ∷ drop (k + 1) live
next_live items live k x all within is =
    let next : drop k items ≡ x ∷ drop (k + 1) items = drop_more items k x within ∙ ap (λ (y : Cand × Bool). y ∷ drop (k + 1) items) (sym is) in
    ap (drop k) (sym all) ∙ drop-map live_of k items ∙ ap (map live_of) next ∙ ap (λ (others : List LiveOf). live_of x ∷ others) (sym (drop-map live_of (k + 1) items) ∙ ap (drop (k + 1)) all)

-- if it is marked, it matches all members
pub next_marked : (members : List ℕ → Type 0) (live others : List LiveOf) (k : ℕ) (l : LiveOf) → drop k live ≡ l ∷ others → MarkedMatchAll members live → IsTrue l.marked → AllAnswer members (does_match l.candidate) true
next_marked members live others k l e marked =
    let P = λ (l : LiveOf). IsTrue l.marked → AllAnswer members (does_match l.candidate) true in
    All-head P l others (subst (All P) e (All-drop P k live marked))

-- ---- a part of a list, from a place on

pub live_part : (items : List (Cand × Bool)) (live : List LiveOf) (k : ℕ) → map live_of items ≡ live → map live_of (take (length items - k) (drop k items)) ≡ drop k live
live_part items live k all =
    ap (map live_of) (take_all (length items - k) (drop k items) (omega (arith, length-drop k items))) ∙ sym (drop-map live_of k items) ∙ ap (drop k) all

pub marked_part : (members : List ℕ → Type 0) (live : List LiveOf) (k : ℕ) (part : List LiveOf) → part ≡ drop k live → MarkedMatchAll members live → MarkedMatchAll members part
marked_part members live k part e marked = subst (MarkedMatchAll members) (sym e) (All-drop (λ l. IsTrue l.marked → AllAnswer members (does_match l.candidate) true) k live marked)
