-- Prunings that keep their promise, and the stronger promise to keep every member.
--     KeepsAll                              the new box has exactly the members of the old one
--     keeps-all-covers, keeps-all-part      it then has, for each member, one that is no later; and it keeps every part of the set
--     idle-keeps-all                        no pruning at all keeps every member
--     prunes-then, prunes-same              one pruning after another; a pruning for another set with the same members
--     sift, sift_box, sift-keeps-all         rows that a test refuses are dropped: none that a member uses
--     take_first, free-prunes                a variable that does not matter takes its first open row
-- Assumes nothing.
use mathlib.Core.Bool.{Bool, true, false}
use mathlib.Core.List.{List, [], ◌∷◌, ◌++◌}
use mathlib.Core.Path.{◌≡◌, refl, ap, sym, ◌∙◌}
use mathlib.Core.Logic.{inl, inr, ⊎_elim, ◌↔◌}
use Prim.Native.Nat.{ℕ, suc}
use lib.ListN.{length}
use Rattle.meaning.proofs.Logic.{false-true}
use Rattle.meaning.proofs.Order.{Covers, keeps-covers, covers-trans, Upto, upto-append}
use Rattle.meaning.proofs.Box.{Box, Mem, Rising, Above, Good, Inside, Open, OfRows, above-mem, mem-all, all-self}
use Rattle.meaning.proofs.Search.{Prunes}

-- ---- the two promises

-- every member inside the box stays, and none comes in
pub record KeepsAll (So : List ℕ → Type 0) (rows : List ℕ) (prune : List ℕ → Box → Box) : Type 0 where
  pub keeps : (chosen : List ℕ) (box : Box) → OfRows rows chosen box → (a : List ℕ) → Open So chosen box a ↔ Open So chosen (prune chosen box) a
  pub good : (chosen : List ℕ) (box : Box) → Good rows box → Good rows (prune chosen box)
  pub long : (chosen : List ℕ) (box : Box) → length (prune chosen box) ≡ length box

pub keeps-all-covers : {So : List ℕ → Type 0} {rows : List ℕ} {prune : List ℕ → Box → Box} → KeepsAll So rows prune → Prunes So rows prune
keeps-all-covers k = record { covers = λ chosen box w. keeps-covers (k.keeps chosen box w); good = k.good; long = k.long }

-- where nothing is pruned
pub idle-keeps-all : (So : List ℕ → Type 0) (rows : List ℕ) → KeepsAll So rows (λ chosen box. box)
idle-keeps-all So rows = record { keeps = λ chosen box w a. (λ o. o, λ o. o); good = λ chosen box g. g; long = λ chosen box. refl }

open-part : (So Part : List ℕ → Type 0) (chosen : List ℕ) (box : Box) (a : List ℕ) → Part a → Open So chosen box a → Open Part chosen box a
open-part So Part chosen box a p o = record { rest = o.rest; whole = o.whole; inside = o.inside; so = p }

-- what keeps every member of a set keeps every member of any part of it
pub keeps-all-part : {So : List ℕ → Type 0} (Part : List ℕ → Type 0) {rows : List ℕ} {prune : List ℕ → Box → Box} → ((a : List ℕ) → Part a → So a)
    → KeepsAll So rows prune → KeepsAll Part rows prune
keeps-all-part {So} Part {rows} {prune} f k =
    record {
      keeps = λ chosen box w a. (
        λ o. open-part So Part chosen (prune chosen box) a o.so ((k.keeps chosen box w a).0 (open-part Part So chosen box a (f a o.so) o)),
        λ o. open-part So Part chosen box a o.so ((k.keeps chosen box w a).1 (open-part Part So chosen (prune chosen box) a (f a o.so) o)),
      );
      good = k.good;
      long = k.long;
    }

pub prunes-then : {So : List ℕ → Type 0} {rows : List ℕ} {prune after : List ℕ → Box → Box} → Prunes So rows prune → Prunes So rows after
    → Prunes So rows (λ chosen box. after chosen (prune chosen box))
prunes-then {So} {rows} {prune} {after} p q =
    record {
      covers = λ chosen box w. covers-trans (p.covers chosen box w) (q.covers chosen (prune chosen box) (w.0, p.good chosen box w.1));
      good = λ chosen box g. q.good chosen (prune chosen box) (p.good chosen box g);
      long = λ chosen box. q.long chosen (prune chosen box) ∙ p.long chosen box;
    }

pub prunes-same : {So : List ℕ → Type 0} (Twin : List ℕ → Type 0) {rows : List ℕ} {prune : List ℕ → Box → Box} → ((a : List ℕ) → So a ↔ Twin a)
    → Prunes So rows prune → Prunes Twin rows prune
prunes-same {So} Twin {rows} {prune} f p = record { covers = λ chosen box w. covers' chosen box (p.covers chosen box w); good = p.good; long = p.long }
  where
    to : (chosen : List ℕ) (box : Box) (a : List ℕ) → Open So chosen box a → Open Twin chosen box a
    to chosen box a o = open-part So Twin chosen box a ((f a).0 o.so) o

    from : (chosen : List ℕ) (box : Box) (a : List ℕ) → Open Twin chosen box a → Open So chosen box a
    from chosen box a o = open-part Twin So chosen box a ((f a).1 o.so) o

    covers' : (chosen : List ℕ) (box : Box) → Covers (Open So chosen box) (Open So chosen (prune chosen box)) → Covers (Open Twin chosen box) (Open Twin chosen (prune chosen box))
    covers' chosen box c =
        record {
          part = λ a o. to chosen box a (c.part a (from chosen (prune chosen box) a o));
          cover = λ a o.
              let k : (b : List ℕ) × Open So chosen (prune chosen box) b × Upto b a = c.cover a (from chosen box a o) in
              (k.0, to chosen (prune chosen box) k.0 k.1, k.2);
        }

-- ---- rows that a test keeps

unfoldable pub sift : (ℕ → Bool) → List ℕ → List ℕ
sift keep [] = []
sift keep (x ∷ l) = let m : List ℕ = sift keep l in elim (keep x) [ true ↦ x ∷ m | false ↦ m ]

-- the test is given the variable's number, from v on
unfoldable pub sift_box : (ℕ → ℕ → Bool) → ℕ → Box → Box
sift_box keep v [] = []
sift_box keep v (l ∷ box) = sift (keep v) l ∷ sift_box keep (suc v) box

pub sift-part : (keep : ℕ → Bool) (l : List ℕ) (x : ℕ) → Mem x (sift keep l) → Mem x l × (keep x ≡ true)
unfolding sift
sift-part keep [] x m = absurd m
sift-part keep (y ∷ l) x m = go (keep y) refl (sift-part keep l x)
  where
    go : (b : Bool) → keep y ≡ b → (Mem x (sift keep l) → Mem x l × (keep x ≡ true)) → Mem x (y ∷ l) × (keep x ≡ true)
    go true e f = ⊎_elim (λ q. (inl q, ap keep q ∙ e)) (λ q. (inr (f q).0, (f q).1)) (rw (e, sift) at m)
    go false e f = let w : Mem x l × (keep x ≡ true) = f (rw (e, sift) at m) in (inr w.0, w.1)

sift-keeps : (keep : ℕ → Bool) (l : List ℕ) (x : ℕ) → Mem x l → keep x ≡ true → Mem x (sift keep l)
unfolding sift
sift-keeps keep [] x m k = m
sift-keeps keep (y ∷ l) x m k = go (keep y) refl m (λ q. sift-keeps keep l x q k)
  where
    go : (b : Bool) → keep y ≡ b → Mem x (y ∷ l) → (Mem x l → Mem x (sift keep l)) → Mem x (sift keep (y ∷ l))
    go true e (inl q) f = rw (e, sift) (inl q)
    go true e (inr q) f = rw (e, sift) (inr (f q))
    go false e (inl q) f = false-true k (ap keep q ∙ e)
    go false e (inr q) f = rw (e, sift) (f q)

sift-above : (keep : ℕ → Bool) (x : ℕ) (l : List ℕ) → Above x l → Above x (sift keep l)
unfolding sift
sift-above keep x [] h = tt
sift-above keep x (y ∷ l) h = go (keep y) refl (sift-above keep x l h.1)
  where
    go : (b : Bool) → keep y ≡ b → Above x (sift keep l) → Above x (sift keep (y ∷ l))
    go true e w = rw (e, sift) (h.0, w)
    go false e w = rw (e, sift) w

sift-rising : (keep : ℕ → Bool) (l : List ℕ) → Rising l → Rising (sift keep l)
unfolding sift
sift-rising keep [] r = tt
sift-rising keep (y ∷ l) r = go (keep y) refl (sift-rising keep l r.1)
  where
    go : (b : Bool) → keep y ≡ b → Rising (sift keep l) → Rising (sift keep (y ∷ l))
    go true e q = rw (e, sift) (sift-above keep y l r.0, q)
    go false e q = rw (e, sift) q

pub sift_box-good : (keep : ℕ → ℕ → Bool) (v : ℕ) (rows : List ℕ) (box : Box) → Good rows box → Good rows (sift_box keep v box)
unfolding sift_box
sift_box-good keep v rows [] g = tt
sift_box-good keep v rows (l ∷ box) g = (
  (sift-rising (keep v) l g.0.0, all-self rows (sift (keep v) l) (λ x m. mem-all rows x l g.0.1 (sift-part (keep v) l x m).0)),
  sift_box-good keep (suc v) rows box g.1,
)

sift_box-long : (keep : ℕ → ℕ → Bool) (v : ℕ) (box : Box) → length (sift_box keep v box) ≡ length box
unfolding sift_box
sift_box-long keep v [] = refl
sift_box-long keep v (l ∷ box) = ap suc (sift_box-long keep (suc v) box)

sift_box-part : (keep : ℕ → ℕ → Bool) (v : ℕ) (box : Box) (a : List ℕ) → Inside (sift_box keep v box) a → Inside box a
unfolding sift_box
sift_box-part keep v [] [] i = tt
sift_box-part keep v [] (x ∷ a) i = absurd i
sift_box-part keep v (l ∷ box) [] i = absurd i
sift_box-part keep v (l ∷ box) (x ∷ a) i = ((sift-part (keep v) l x i.0).0, sift_box-part keep (suc v) box a i.1)

-- each place passes its variable's test
abbrev pub Kept : (ℕ → ℕ → Bool) → ℕ → List ℕ → Type 0
Kept keep v [] = Unit {0}
Kept keep v (x ∷ a) = (keep v x ≡ true) × Kept keep (suc v) a

sift_box-keeps : (keep : ℕ → ℕ → Bool) (v : ℕ) (box : Box) (a : List ℕ) → Inside box a → Kept keep v a → Inside (sift_box keep v box) a
unfolding sift_box
sift_box-keeps keep v [] [] i k = tt
sift_box-keeps keep v [] (x ∷ a) i k = absurd i
sift_box-keeps keep v (l ∷ box) [] i k = absurd i
sift_box-keeps keep v (l ∷ box) (x ∷ a) i k = (sift-keeps (keep v) l x i.0 k.0, sift_box-keeps keep (suc v) box a i.1 k.1)

-- each member inside a box passes the tests of its choice and that box
pub sift-keeps-all : (So : List ℕ → Type 0) (rows : List ℕ) (keep : List ℕ → Box → ℕ → ℕ → Bool)
    → ((chosen : List ℕ) (box : Box) → OfRows rows chosen box → (rest : List ℕ) → Inside box rest → So (chosen ++ rest) → Kept (keep chosen box) (length chosen) rest)
    → KeepsAll So rows (λ chosen box. sift_box (keep chosen box) (length chosen) box)
sift-keeps-all So rows keep safe =
    record {
      keeps = λ chosen box w a. (
        λ o.
            let k : Kept (keep chosen box) (length chosen) o.rest = safe chosen box w o.rest o.inside (rw o.whole at o.so) in
            record { rest = o.rest; whole = o.whole; inside = sift_box-keeps (keep chosen box) (length chosen) box o.rest o.inside k; so = o.so },
        λ o. record { rest = o.rest; whole = o.whole; inside = sift_box-part (keep chosen box) (length chosen) box o.rest o.inside; so = o.so },
      );
      good = λ chosen box g. sift_box-good (keep chosen box) (length chosen) rows box g;
      long = λ chosen box. sift_box-long (keep chosen box) (length chosen) box;
    }

-- ---- a variable that does not matter

-- the next variable, where it is free, takes its first open row alone
unfoldable pub take_first : (ℕ → Bool) → List ℕ → Box → Box
take_first free chosen [] = []
take_first free chosen ([] ∷ box) = [] ∷ box
take_first free chosen ((x ∷ l) ∷ box) = elim (free (length chosen)) [ true ↦ (x ∷ []) ∷ box | false ↦ (x ∷ l) ∷ box ]

module _ (So : List ℕ → Type 0) (chosen : List ℕ) (x : ℕ) (l : List ℕ) (box : Box) (up : Above x l)
    (swap : (y : ℕ) (r : List ℕ) → So (chosen ++ y ∷ r) → So (chosen ++ x ∷ r)) where
  free-differ : (a r : List ℕ) → a ≡ chosen ++ r → Inside ((x ∷ []) ∷ box) r → So a → Open So chosen ((x ∷ l) ∷ box) a
  free-differ a [] e i s = absurd i
  free-differ a (y ∷ r) e i s = record { rest = y ∷ r; whole = e; inside = (⊎_elim (λ q. inl q) (λ q. absurd q) i.0, i.1); so = s }

  free-first : (a r : List ℕ) → a ≡ chosen ++ r → Inside ((x ∷ l) ∷ box) r → So a → (b : List ℕ) × Open So chosen ((x ∷ []) ∷ box) b × Upto b a
  free-first a [] e i s = absurd i
  free-first a (y ∷ r) e i s = (
    chosen ++ x ∷ r,
    record { rest = x ∷ r; whole = refl; inside = (inl refl, i.1); so = swap y r (rw e at s) },
    rw e (upto-append chosen (x ∷ r) (y ∷ r) (⊎_elim (λ q. inl (ap (◌∷ r) (sym q))) (λ m. inr (inl (above-mem x y l up m))) i.0)),
  )

  free-covers : Covers (Open So chosen ((x ∷ l) ∷ box)) (Open So chosen ((x ∷ []) ∷ box))
  free-covers =
      record {
        part = λ a o. free-differ a o.rest o.whole o.inside o.so;
        cover = λ a o. free-first a o.rest o.whole o.inside o.so;
      }

-- a free variable's row may be put for another in any member
pub free-prunes : (So : List ℕ → Type 0) (rows : List ℕ) (free : ℕ → Bool)
    → ((chosen : List ℕ) (x y : ℕ) (r : List ℕ) → free (length chosen) ≡ true → Mem x rows → So (chosen ++ y ∷ r) → So (chosen ++ x ∷ r))
    → Prunes So rows (take_first free)
unfolding take_first
free-prunes So rows free swap = record { covers = λ chosen box w. covers' chosen box w.1; good = good'; long = long' }
  where
    same : (P : List ℕ → Type 0) → Covers P P
    same P = keeps-covers (λ a. (λ o. o, λ o. o))

    covers' : (chosen : List ℕ) (box : Box) → Good rows box → Covers (Open So chosen box) (Open So chosen (take_first free chosen box))
    covers' chosen [] g = same (Open So chosen [])
    covers' chosen ([] ∷ box) g = same (Open So chosen ([] ∷ box))
    covers' chosen ((x ∷ l) ∷ box) g = go (free (length chosen)) refl
      where
        go : (b : Bool) → free (length chosen) ≡ b → Covers (Open So chosen ((x ∷ l) ∷ box)) (Open So chosen (take_first free chosen ((x ∷ l) ∷ box)))
        go true e = rw (e, take_first) (free-covers So chosen x l box g.0.0.0 (λ y r. swap chosen x y r e g.0.1.0))
        go false e = rw (e, take_first) (same (Open So chosen ((x ∷ l) ∷ box)))

    good' : (chosen : List ℕ) (box : Box) → Good rows box → Good rows (take_first free chosen box)
    good' chosen [] g = g
    good' chosen ([] ∷ box) g = g
    good' chosen ((x ∷ l) ∷ box) g = go (free (length chosen)) refl
      where
        go : (b : Bool) → free (length chosen) ≡ b → Good rows (take_first free chosen ((x ∷ l) ∷ box))
        go true e = rw (e, take_first) (((tt, tt), (g.0.1.0, tt)), g.1)
        go false e = rw (e, take_first) g

    long' : (chosen : List ℕ) (box : Box) → length (take_first free chosen box) ≡ length box
    long' chosen [] = refl
    long' chosen ([] ∷ box) = refl
    long' chosen ((x ∷ l) ∷ box) = go (free (length chosen)) refl
      where
        go : (b : Bool) → free (length chosen) ≡ b → length (take_first free chosen ((x ∷ l) ∷ box)) ≡ suc (length box)
        go true e = rw (e, take_first) refl
        go false e = rw (e, take_first) refl
