-- The search for the first key that is not below a number.
--     rising-ascends       a rising list rises from place to place
--     ascends-order        such keys do not fall
--     first-from           the point at which they reach a number
-- Assumes nothing.
use mathlib.Core.Bool.{true, false}
use mathlib.Core.List.{List, [], ◌∷◌}
use mathlib.Core.Path.{◌≡◌}
use Prim.Native.Nat.{ℕ, zero, suc, ◌≤◌, ◌<◌}
use native.Mathlib.Omega.{arith}
use borrow.Author.Tests.{ltb-true, ltb-false}
use lib.Dec.{ltb}
use lib.ListN.{length, get_or}
use Rattle.std.specs.List.Sorted.{IsPartitionPoint, IsNonDecreasingBy}
use Rattle.std.proofs.lemmas.List.Sorted.{IsNonDecreasingBy-from_default}
use native.Mathlib.Decide.{dec_lt}
use Rattle.meaning.proofs.Sorted.{in-at}
use Rattle.sorting.specs.Sorting.{Rising}
use Rattle.search_values.specs.Index.{Indexed}
use Rattle.search_values.specs.Lookup.{Ascends, FirstFrom, LedgerFit}

rising-at : (l : List ℕ) → Rising l → (i j : ℕ) → i < j → j < length l → get_or l i 0 < get_or l j 0
rising-at [] r i j h k = absurd (omega arith)
rising-at (x ∷ l) r zero zero h k = absurd (omega arith)
rising-at (x ∷ l) r zero (suc j) h k = r.0 (get_or l j 0) (in-at l j 0 (omega arith))
rising-at (x ∷ l) r (suc i) zero h k = absurd (omega arith)
rising-at (x ∷ l) r (suc i) (suc j) h k = rising-at l r.1 i j (omega arith) (omega arith)

pub indexed-ascends : {rows keys : List ℕ} → Indexed rows keys → Ascends keys
indexed-ascends {rows} {keys} x = record { rises = rising-at keys x.sorts.rising }

pub ledger-ascends : {rows table keys : List ℕ} → LedgerFit rows table keys → Ascends keys
ledger-ascends l = indexed-ascends l.indexed

pub ascends-order : (keys : List ℕ) → Ascends keys → IsNonDecreasingBy (λ (x : ℕ). x) keys
ascends-order keys a = IsNonDecreasingBy-from_default (λ (x : ℕ). x) keys 0 (λ i j h l. go i j h l (dec_lt i j))
  where
    go : (i j : ℕ) → i ≤ j → j < length keys → Dec (i < j) → get_or keys i 0 ≤ get_or keys j 0
    go i j h l (yes g) = omega (arith, a.rises i j g l)
    go i j h l (no g) = let e : i ≡ j = omega arith in rw e (omega arith)

pub first-from : (keys : List ℕ) (sought p : ℕ) → p ≤ length keys → IsPartitionPoint (λ y. ltb y sought ≡ true) (λ y. ltb y sought ≡ false) keys p → FirstFrom keys sought p
first-from keys sought p h w =
    record {
      within = h;
      below = λ i l. ltb-true (get_or keys i 0) sought (w.0 i 0 (omega arith) l);
      above = λ i l m. ltb-false (get_or keys i 0) sought (w.1 i 0 l m);
    }
