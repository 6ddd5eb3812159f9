-- The search for the first member at or after a given assignment.
--     AtOrAfter                        the members of a set from an assignment on
--     not_before, from-keeps-all        the pruning that drops rows which only earlier members use; it keeps every member from the assignment on
--     search-from                      the first member from an assignment on, by any pruning that covers those members
--     search-all-from                  the same by a pruning that keeps every member of the set
-- Assumes nothing.
use mathlib.Core.Bool.{Bool, true, false, not, ◌&&◌, ◌||◌}
use mathlib.Core.List.{List, [], ◌∷◌, ◌++◌}
use mathlib.Core.Path.{◌≡◌, refl, ap, sym, ◌∙◌, subst}
use mathlib.Core.Logic.{inl, inr, ⊎_elim}
use Prim.Native.Nat.{ℕ, suc, ◌≤◌, ◌<◌}
use native.Mathlib.Omega.{arith}
use lib.Dec.{eqb, leb}
use borrow.Author.Tests.{eq-eqb, leb-true, le-leb, ne_eqb}
use lib.ListN.{length, get_or, take}
use Rattle.meaning.specs.Rules.{Before, First}
use Rattle.meaning.specs.ByTable.{same_list}
use Rattle.meaning.proofs.Logic.{or_right}
use Rattle.meaning.proofs.Lists.{same_list-true, same_list-self}
use Rattle.meaning.proofs.Order.{Upto, before-cases, before-snoc}
use Rattle.meaning.proofs.Box.{Box, Mem, Rising, Good, Open, AllIn, OfRows, of-rows-next}
use Rattle.meaning.proofs.Search.{search, Cuts, Prunes, Invariant, invariant-first}
use Rattle.meaning.proofs.Prunings.{KeepsAll, keeps-all-covers, keeps-all-part, prunes-then, sift, sift_box, sift_box-good, sift-part, Kept, sift-keeps-all}

abbrev pub AtOrAfter : (List ℕ → Type 0) → List ℕ → List ℕ → Type 0
AtOrAfter So from a = So a × Upto from a

-- a row of variable v; only the next variable's rows are held against the given assignment, and only while the choice agrees with it
unfoldable pub not_earlier : List ℕ → List ℕ → ℕ → ℕ → Bool
not_earlier from chosen v x = not (eqb v (length chosen) && same_list chosen (take (length chosen) from)) || leb (get_or from v 0) x

unfoldable pub not_before : List ℕ → List ℕ → Box → Box
not_before from chosen box = sift_box (not_earlier from chosen) (length chosen) box

-- later variables are free
not-earlier-later : (from chosen : List ℕ) (v : ℕ) (a : List ℕ) → length chosen < v → Kept (not_earlier from chosen) v a
unfolding not_earlier
not-earlier-later from chosen v [] h = tt
not-earlier-later from chosen v (x ∷ a) h =
    (rw (ne_eqb v (length chosen) (λ e. omega arith)) refl, not-earlier-later from chosen (suc v) a (omega arith))

-- the next place of an assignment that begins like another and is no earlier
upto_next : (from c : List ℕ) (x : ℕ) (r : List ℕ) → c ≡ take (length c) from → Upto from (c ++ x ∷ r) → get_or from (length c) 0 ≤ x
upto_next [] c x r e u = omega arith
upto_next (f ∷ from) [] x r e (inl q) = let w : f ≡ x = cc in omega arith
upto_next (f ∷ from) [] x r e (inr (inl h)) = omega arith
upto_next (f ∷ from) [] x r e (inr (inr h)) = omega (arith, h.0)
upto_next (f ∷ from) (y ∷ c) x r e (inl q) = upto_next from c x r (cc) (inl (cc))
upto_next (f ∷ from) (y ∷ c) x r e (inr (inl h)) = let w : y ≡ f = cc in absurd (omega arith)
upto_next (f ∷ from) (y ∷ c) x r e (inr (inr h)) = upto_next from c x r (cc) (inr h.1)

kept_from : (from chosen rest : List ℕ) → Upto from (chosen ++ rest) → Kept (not_earlier from chosen) (length chosen) rest
unfolding not_earlier
kept_from from chosen [] u = tt
kept_from from chosen (x ∷ r) u = (go (same_list chosen (take (length chosen) from)) refl, not-earlier-later from chosen (suc (length chosen)) r (omega arith))
  where
    go : (b : Bool) → same_list chosen (take (length chosen) from) ≡ b → not_earlier from chosen (length chosen) x ≡ true
    go true e =
        or_right (not (eqb (length chosen) (length chosen) && same_list chosen (take (length chosen) from))) (leb (get_or from (length chosen) 0) x)
        (le-leb (get_or from (length chosen) 0) x (upto_next from chosen x r (same_list-true chosen (take (length chosen) from) e) u))
    go false e = rw (e, eq-eqb (length chosen) (length chosen) refl) refl

pub from-keeps-all : (So : List ℕ → Type 0) (rows from : List ℕ) → KeepsAll (AtOrAfter So from) rows (not_before from)
unfolding not_before
from-keeps-all So rows from = sift-keeps-all (AtOrAfter So from) rows (λ chosen box. not_earlier from chosen) (λ chosen box w rest i s. kept_from from chosen rest s.1)

-- a choice that is not earlier stays so by a row that is kept
from_next : (from chosen : List ℕ) (x : ℕ) → (Before chosen from → ⊥) → not_earlier from chosen (length chosen) x ≡ true → Before (chosen ++ (x ∷ [])) from → ⊥
unfolding not_earlier
from_next from chosen x n k w = ⊎_elim n (λ h. go h.0 h.1) (before-snoc chosen x from w)
  where
    go : chosen ≡ take (length chosen) from → x < get_or from (length chosen) 0 → ⊥
    go e h =
        let s : same_list chosen (take (length chosen) from) ≡ true = ap (same_list chosen) (sym e) ∙ same_list-self chosen in
        let l : leb (get_or from (length chosen) 0) x ≡ true = rw (s, eq-eqb (length chosen) (length chosen) refl) at k in
        omega (arith, leb-true (get_or from (length chosen) 0) x l)

module _ (So : List ℕ → Type 0) (total : ℕ) (rows : List ℕ) (dead : List ℕ → Bool) (prune : List ℕ → Box → Box) (from : List ℕ) (whole : length from ≡ total) where
  abbrev pruned : List ℕ → Box → Box
  pruned chosen box = not_before from chosen (prune chosen box)

  abbrev Reached : List ℕ → Box → Type 0
  Reached chosen box = OfRows rows chosen box × (Before chosen from → ⊥)

  from-invariant : Cuts So total rows dead → Prunes (AtOrAfter So from) rows prune → Invariant (AtOrAfter So from) total Reached dead pruned
  unfolding not_before sift_box
  from-invariant c p =
      let q : Prunes (AtOrAfter So from) rows pruned = prunes-then p (keeps-all-covers (from-keeps-all So rows from)) in
      record {
        cut = λ chosen e rest s. c.cut chosen e rest s.0;
        leaf = λ a h w e. (c.leaf a h w.0.0 e, ⊎_elim (λ s. inl s) (⊎_elim (λ b. inr b) (λ b. absurd (w.1 b))) (before-cases from a (whole ∙ sym h)));
        covers = λ chosen box w. q.covers chosen box w.0;
        long = q.long;
        next = λ chosen box w l new e. next' chosen (prune chosen box) (p.good chosen box w.0.1) w.0.0 w.1 l new e;
      }
    where
      next' : (chosen : List ℕ) (box : Box) → Good rows box → AllIn rows chosen → (Before chosen from → ⊥) → (l : List ℕ) (new : Box)
          → not_before from chosen box ≡ l ∷ new → Rising l × ((x : ℕ) → Mem x l → Reached (chosen ++ (x ∷ [])) new)
      next' chosen [] g i n l new e = absurd (let z : ◌≡◌ {A = ℕ} 0 1 = cc in omega arith)
      next' chosen (m ∷ box) g i n l new e =
          let f : sift (not_earlier from chosen (length chosen)) m ≡ l = cc in
          let h : Good rows (l ∷ new) = subst (Good rows) e (sift_box-good (not_earlier from chosen) (length chosen) rows (m ∷ box) g) in
          (h.0.0, λ x k. (of-rows-next rows chosen l new i h x k, from_next from chosen x n (sift-part (not_earlier from chosen (length chosen)) m x (subst (Mem x) (sym f) k)).1))

  -- the search law, from an assignment on
  pub search-from : Cuts So total rows dead → Prunes (AtOrAfter So from) rows prune → (box : Box) → length box ≡ total → Good rows box
      → First (Open (AtOrAfter So from) [] box) (search dead (λ chosen box. not_before from chosen (prune chosen box)) total [] box)
  search-from c p box h g = invariant-first (AtOrAfter So from) (from-invariant c p) total [] box (omega arith) h ((tt, g), λ b. b)

  -- a pruning that keeps every member serves every assignment to start from
  pub search-all-from : Cuts So total rows dead → KeepsAll So rows prune → (box : Box) → length box ≡ total → Good rows box
      → First (Open (AtOrAfter So from) [] box) (search dead (λ chosen box. not_before from chosen (prune chosen box)) total [] box)
  search-all-from c k = search-from c (keeps-all-covers (keeps-all-part (AtOrAfter So from) (λ a s. s.0) k))
