-- Each piece with room for a line leaves less of the list: what a program that writes piece by piece ends by.
--     rest_by, left_of    what is still to be listed at a state, and how many lines are still to be written
--     runs-falls        with room for 13 bytes fewer lines are left afterwards, unless the list was done
-- Assumes nothing.
use mathlib.Core.List.{List, [], ◌++◌}
use mathlib.Core.Path.{◌≡◌, refl, sym, ap, subst}
use Prim.Native.Nat.{ℕ, suc, ◌≤◌, ◌<◌}
use native.Mathlib.Omega.{arith}
use lib.ListN.{length}
use Rattle.meaning.specs.Context.{Context}
use Rattle.meaning.specs.Equality.{rep_at}
use Rattle.meaning.specs.Rules.{Clause, Found}
use Rattle.meaning.specs.Replies.{breach, reply_of, places_of, printed}
use Rattle.meaning.specs.Listing.{Goes}
use Rattle.meaning.specs.Following.{differ_by}
use Rattle.meaning.proofs.Listing.{goes_one}
use Rattle.meaning.proofs.ListingNext.{every_by, every_after, every-goes, after-goes}
use Rattle.listing.specs.declared.State.{State}
use Rattle.listing.specs.declared.State.TheVariants.{Start, After, Done}
use Rattle.listing.specs.Filling.{comes_by, Comes, Runs, stops, waits, writes}
use Rattle.listing.proofs.Filling.{runs-one}
use Rattle.listing.proofs.Pieces.{onward, placed-front, Shorter, none_left, fewer, Advance, run_on, line-short}

unfoldable pub rest_by : Context → List ℕ → Clause → State → List (List ℕ)
rest_by c table k Start = every_by (differ_by c) c.rows (rep_at table) 65536 k
rest_by c table k (After places) = every_after (differ_by c) c.rows (rep_at table) 65536 k places
rest_by c table k Done = []

-- a breach each, and the last line
unfoldable pub left_by : State → ℕ → ℕ
left_by Start n = suc n
left_by (After places) n = suc n
left_by Done n = 0

unfoldable pub left_of : Context → List ℕ → Clause → State → ℕ
left_of c table k s = left_by s (length (rest_by c table k s))

left-going : (s : State) (n : ℕ) → (s ≡ Done → ⊥) → left_by s n ≡ suc n
unfolding left_by
left-going Start n h = refl
left-going (After places) n h = refl
left-going Done n h = absurd (h refl)

left-done : (s : State) (n : ℕ) → s ≡ Done → left_by s n ≡ 0
unfolding left_by
left-done s n h = rw h refl

module _ (c : Context) (t : List ℕ) (k : Clause) where
  rest_goes : (s : State) → (s ≡ Done → ⊥) → Goes (onward c t k) (comes_by c t k s) (rest_by c t k s)
  unfolding comes_by rest_by
  rest_goes Start h =
      every-goes (differ_by c) c.rows (rep_at t) 65536 k (λ a. places_of (breach a)) placed-front
  rest_goes (After places) h =
      after-goes (differ_by c) c.rows (rep_at t) 65536 k (λ a. places_of (breach a)) placed-front places
  rest_goes Done h = absurd (h refl)

  comes-goes : (s : State) (r : Found) → Comes c t k s r → Goes (onward c t k) r (rest_by c t k s)
  comes-goes s r w = subst (λ (f : Found). Goes (onward c t k) f (rest_by c t k s)) (sym w.what) (rest_goes s w.going)

  comes-left : (s : State) (r : Found) → Comes c t k s r → left_of c t k s ≡ suc (length (rest_by c t k s))
  unfolding left_of
  comes-left s r w = left-going s (length (rest_by c t k s)) w.going

  falls-from : (n : ℕ) (s u : State) (bytes : List ℕ) (r : Found) → 13 ≤ n → Comes c t k s r → Runs c t k n s bytes u → left_of c t k u < left_of c t k s
  unfolding left_of
  falls-from n s u bytes r h w y = go (subst (λ (z : State). Shorter c t k z l) (sym last) a.shorter)
    where
      l : List (List ℕ)
      l = rest_by c t k s

      a : Advance c t k n s l
      a = run_on c t k n s r l w (comes-goes s r w) (omega (arith, line-short c t k s r w))

      last : u ≡ a.last
      last = (runs-one c t k n s bytes a.bytes u a.last y a.run).1

      go : Shorter c t k u l → left_of c t k u < left_of c t k s
      go (none_left e) =
          omega (arith, comes-left s r w, left-done u (length (rest_by c t k u)) e)
      go (fewer q m v g lt) =
          let e : m ≡ rest_by c t k u =
          goes_one 0 (onward c t k) q m (rest_by c t k u) g (comes-goes u q v) in
          omega (arith, comes-left s r w, comes-left u q v, ap length e)

  pub runs-falls : (n : ℕ) (s u : State) (bytes : List ℕ) → 13 ≤ n → (s ≡ Done → ⊥) → Runs c t k n s bytes u → left_of c t k u < left_of c t k s
  unfolding left_of
  runs-falls n s u bytes h g (stops m z w) =
      omega (arith, left-going z (length (rest_by c t k z)) g, left-done Done (length (rest_by c t k Done)) refl)
  runs-falls n s u bytes h g (waits m z r w l) = falls-from m z z [] r h w (waits m z r w l)
  runs-falls n s u bytes h g (writes m z r w l b v y) = falls-from m z v (printed (reply_of r) ++ b) r h w (writes m z r w l b v y)
