-- The numbers of the pattern rows of levels 0 to k are settled by the first k given values, whatever the table and the patterns are.
--     levels-most       no row's level passes the number of variables
--     stages-prefix     the first k stages read only the first k given values
--     stages-next       with one value more only the rows of one level more are read
--     stages-later      a later stage leaves the numbers of the rows of earlier levels as they are
--     ready             whether both sides of a literal have levels of at most k
--     holds-stages      whether a literal that is ready holds is settled by the first k given values, at stage k and at every later one
--     holds-prefix      so it is by the numbers of all rows
-- Assumes nothing.
use mathlib.Core.Bool.{Bool, true, false, ◌&&◌}
use mathlib.Core.List.{List, [], ◌∷◌, ◌++◌}
use mathlib.Core.Path.{◌≡◌, refl, ap, ap₂, sym, ◌∙◌}
use mathlib.Core.Logic.{inl, inr, ⊎_elim}
use Prim.Native.Nat.{ℕ, zero, suc, ◌+◌, ◌≤◌, ◌<◌}
use native.Mathlib.Omega.{arith}
use lib.Dec.{eqb, leb}
use borrow.Author.Tests.{eqb-true, eqb-false, leb-true}
use lib.ListN.{length, get_or, set, get_or-append}
use lib.Seq.{get_or-append_seam, get_or-set_other}
use Rattle.meaning.specs.Context.{Row}
use Rattle.meaning.specs.Rules.{Pattern, variable, apply, Literal, equal, unequal, variables}
use Rattle.meaning.specs.Formed.{left_of, right_of}
use Rattle.meaning.specs.Values.{highest, level_of, levels_from, levels, rows_at, pattern_at, number_at, Numbering, number_of, step, number, unread, stage, stages, numbers}
use Rattle.meaning.specs.FirstBy.{holds_by}
use Rattle.meaning.proofs.Logic.{and-true-left, and-true-right}
use Rattle.meaning.proofs.Lists.{length-snoc}
use Rattle.meaning.proofs.Box.{Mem}

-- ---- levels

length_from : (ls : List ℕ) (ps : List Pattern) → length (levels_from ls ps) ≡ length ls + length ps
unfolding levels_from
length_from ls [] = omega arith
length_from ls (p ∷ ps) = omega (arith, length_from (ls ++ (level_of ls p ∷ [])) ps, length-snoc ls (level_of ls p))

from-keeps : (ls : List ℕ) (ps : List Pattern) (i : ℕ) → i < length ls → get_or (levels_from ls ps) i 0 ≡ get_or ls i 0
unfolding levels_from
from-keeps ls [] i h = refl
from-keeps ls (p ∷ ps) i h =
    from-keeps (ls ++ (level_of ls p ∷ [])) ps i (omega (arith, length-snoc ls (level_of ls p))) ∙ get_or-append ls (level_of ls p ∷ []) 0 i h

from-variable : (ls : List ℕ) (ps : List Pattern) (i v : ℕ) → i < length ps → pattern_at ps i ≡ variable v → get_or (levels_from ls ps) (length ls + i) 0 ≡ suc v
unfolding levels_from level_of
from-variable ls [] i v h e = absurd (omega arith)
from-variable ls (p ∷ ps) zero v h e =
    ap (λ (n : ℕ). get_or (levels_from (ls ++ (level_of ls p ∷ [])) ps) n 0) (omega arith)
    ∙ from-keeps (ls ++ (level_of ls p ∷ [])) ps (length ls) (omega (arith, length-snoc ls (level_of ls p)))
    ∙ get_or-append_seam ls (level_of ls p) [] 0
    ∙ ap (level_of ls) e
from-variable ls (p ∷ ps) (suc i) v h e =
    ap (λ (n : ℕ). get_or (levels_from (ls ++ (level_of ls p ∷ [])) ps) n 0) (omega (arith, length-snoc ls (level_of ls p)))
    ∙ from-variable (ls ++ (level_of ls p ∷ [])) ps i v (omega arith) e

snoc-most : (n : ℕ) (ls : List ℕ) (x : ℕ) → ((i : ℕ) → get_or ls i 0 ≤ n) → x ≤ n → (i : ℕ) → get_or (ls ++ (x ∷ [])) i 0 ≤ n
snoc-most n [] x h l zero = l
snoc-most n [] x h l (suc i) = omega arith
snoc-most n (y ∷ ls) x h l zero = h 0
snoc-most n (y ∷ ls) x h l (suc i) = snoc-most n ls x (λ j. h (suc j)) l i

highest-most : (n : ℕ) (ls : List ℕ) → ((i : ℕ) → get_or ls i 0 ≤ n) → (l : List ℕ) → highest ls l ≤ n
unfolding highest
highest-most n ls h [] = omega arith
highest-most n ls h (a ∷ l) = omega (arith, h a, highest-most n ls h l)

from-most : (n : ℕ) (ls : List ℕ) (ps : List Pattern) → ((i : ℕ) → get_or ls i 0 ≤ n) → variables ps ≤ n → (i : ℕ) → get_or (levels_from ls ps) i 0 ≤ n
unfolding levels_from level_of variables
from-most n ls [] h m = h
from-most n ls (variable v ∷ ps) h m = from-most n (ls ++ (suc v ∷ [])) ps (snoc-most n ls (suc v) h (omega arith)) (omega arith)
from-most n ls (apply f l ∷ ps) h m = from-most n (ls ++ (highest ls l ∷ [])) ps (snoc-most n ls (highest ls l) h (highest-most n ls h l)) m

pub levels-most : (ps : List Pattern) (p : ℕ) → get_or (levels ps) p 0 ≤ variables ps
unfolding levels
levels-most ps p = from-most (variables ps) [] ps (λ i. omega arith) (omega arith) p

-- a row of level k, from row i on
rows-level : (k i : ℕ) (l : List ℕ) (r : ℕ) → Mem r (rows_at k i l) → (j : ℕ) × (j < length l) × (r ≡ i + j) × (get_or l j 0 ≡ k)
unfolding rows_at
rows-level k i [] r m = absurd m
rows-level k i (x ∷ l) r m = go (eqb x k) refl (rows-level k (suc i) l r)
  where
    later : ((j : ℕ) × (j < length l) × (r ≡ suc i + j) × (get_or l j 0 ≡ k)) → (j : ℕ) × (j < length (x ∷ l)) × (r ≡ i + j) × (get_or (x ∷ l) j 0 ≡ k)
    later w = (suc w.0, omega (arith, w.1), omega (arith, w.2), w.3)

    go : (b : Bool) → eqb x k ≡ b → (Mem r (rows_at k (suc i) l) → (j : ℕ) × (j < length l) × (r ≡ suc i + j) × (get_or l j 0 ≡ k))
        → (j : ℕ) × (j < length (x ∷ l)) × (r ≡ i + j) × (get_or (x ∷ l) j 0 ≡ k)
    go true e f = ⊎_elim (λ q. (0, omega arith, omega (arith, q), eqb-true x k e)) (λ w. later (f w)) (rw (e, rows_at) at m)
    go false e f = later (f (rw (e, rows_at) at m))

stage-level : (ps : List Pattern) (k r : ℕ) → Mem r (rows_at k 0 (levels ps)) → (r < length ps) × (get_or (levels ps) r 0 ≡ k)
unfolding levels
stage-level ps k r m =
    let w : (j : ℕ) × (j < length (levels ps)) × (r ≡ 0 + j) × (get_or (levels ps) j 0 ≡ k) = rows-level k 0 (levels ps) r m in
    let e : r ≡ w.0 = omega (arith, w.2) in
    (omega (arith, w.1, length_from [] ps), ap (λ (i : ℕ). get_or (levels ps) i 0) e ∙ w.3)

-- a variable's row stands in the stage after its number
stage-variable : (ps : List Pattern) (k r v : ℕ) → Mem r (rows_at k 0 (levels ps)) → pattern_at ps r ≡ variable v → k ≡ suc v
unfolding levels
stage-variable ps k r v m e =
    let w : (r < length ps) × (get_or (levels ps) r 0 ≡ k) = stage-level ps k r m in
    sym w.1 ∙ ap (λ (i : ℕ). get_or (levels ps) i 0) (omega arith) ∙ from-variable [] ps r v w.0 e

-- ---- stages

module _ (rows : List Row) (rep : ℕ → ℕ) (offset : ℕ) (ps : List Pattern) where
  -- two lists of given values agree on the variables of some rows
  abbrev Agree : List ℕ → List ℕ → List ℕ → Type 0
  Agree given given' rs = (r : ℕ) → Mem r rs → (v : ℕ) → pattern_at ps r ≡ variable v → number_at given v ≡ number_at given' v

  value-prefix : (given given' : List ℕ) (s : Numbering) (own : ℕ) (p : Pattern) → ((v : ℕ) → p ≡ variable v → number_at given v ≡ number_at given' v)
      → number_of rows rep offset ps given s own p ≡ number_of rows rep offset ps given' s own p
  unfolding number_of
  value-prefix given given' s own (variable v) f = f v refl
  value-prefix given given' s own (apply g l) f = refl

  number-prefix : (given given' : List ℕ) (s : Numbering) (rs : List ℕ) → Agree given given' rs
      → number rows rep offset ps given s rs ≡ number rows rep offset ps given' s rs
  unfolding number step
  number-prefix given given' s [] f = refl
  number-prefix given given' s (r ∷ rs) f =
      number-prefix given given' (step rows rep offset ps given s r) rs (λ q m. f q (inr m))
      ∙ ap (λ (n : ℕ). number rows rep offset ps given' (record { numbers = set s.numbers r n; done = s.done ++ (r ∷ []) }) rs)
      (value-prefix given given' s (offset + r) (pattern_at ps r) (f r (inl refl)))

  pub stages-prefix : (given given' : List ℕ) (k : ℕ) → ((v : ℕ) → v < k → number_at given v ≡ number_at given' v)
      → stages rows rep offset ps given k ≡ stages rows rep offset ps given' k
  unfolding stages
  stages-prefix given given' zero f =
      number-prefix given given' (unread rows rep offset ps given) (rows_at 0 0 (levels ps)) (λ r m v e. absurd (omega (arith, stage-variable ps 0 r v m e)))
  stages-prefix given given' (suc k) f =
      number-prefix given given' (stages rows rep offset ps given k) (rows_at (suc k) 0 (levels ps)) (λ r m v e. f v (omega (arith, stage-variable ps (suc k) r v m e)))
      ∙ ap (stage rows rep offset ps given' (suc k)) (stages-prefix given given' k (λ v h. f v (omega arith)))

  -- one value more settles the rows of one level more
  pub stages-next : (given : List ℕ) (x : ℕ)
      → stages rows rep offset ps (given ++ (x ∷ [])) (suc (length given)) ≡ stage rows rep offset ps (given ++ (x ∷ [])) (suc (length given)) (stages rows rep offset ps given (length given))
  unfolding stages
  stages-next given x =
      ap (stage rows rep offset ps (given ++ (x ∷ [])) (suc (length given)))
      (stages-prefix (given ++ (x ∷ [])) given (length given) (get_or-append given (x ∷ []) 0))

  number-other : (given : List ℕ) (s : Numbering) (rs : List ℕ) (p : ℕ) → (Mem p rs → ⊥) → number_at (number rows rep offset ps given s rs).numbers p ≡ number_at s.numbers p
  unfolding number step
  number-other given s [] p n = refl
  number-other given s (r ∷ rs) p n =
      number-other given (step rows rep offset ps given s r) rs p (λ m. n (inr m))
      ∙ get_or-set_other s.numbers r p (number_of rows rep offset ps given s (offset + r) (pattern_at ps r)) 0 (λ e. n (inl e))

  pub stages-later : (given : List ℕ) (k m p : ℕ) → k ≤ m → get_or (levels ps) p 0 ≤ k
      → number_at (stages rows rep offset ps given m).numbers p ≡ number_at (stages rows rep offset ps given k).numbers p
  unfolding stages
  stages-later given k zero p h l = let e : 0 ≡ k = omega arith in ap (λ (n : ℕ). number_at (stages rows rep offset ps given n).numbers p) e
  stages-later given k (suc m) p h l = go (eqb k (suc m)) refl (λ g. stages-later given k m p g l)
    where
      go : (b : Bool) → eqb k (suc m) ≡ b → (k ≤ m → number_at (stages rows rep offset ps given m).numbers p ≡ number_at (stages rows rep offset ps given k).numbers p)
          → number_at (stages rows rep offset ps given (suc m)).numbers p ≡ number_at (stages rows rep offset ps given k).numbers p
      go true e ih = ap (λ (n : ℕ). number_at (stages rows rep offset ps given n).numbers p) (sym (eqb-true k (suc m) e))
      go false e ih =
          let g : k ≤ m = omega (arith, eqb-false k (suc m) e) in
          number-other given (stages rows rep offset ps given m) (rows_at (suc m) 0 (levels ps)) p (λ w. omega (arith, (stage-level ps (suc m) p w).1)) ∙ ih g

-- ---- literals

-- both sides reach only the first k variables
unfoldable pub ready : ℕ → List ℕ → Literal → Bool
ready k ls l = leb (get_or ls (left_of l) 0) k && leb (get_or ls (right_of l) 0) k

holds-sides : (differs : ℕ → ℕ → Bool) (ns ms : List ℕ) (l : Literal) → number_at ns (left_of l) ≡ number_at ms (left_of l) → number_at ns (right_of l) ≡ number_at ms (right_of l)
    → holds_by differs ns l ≡ holds_by differs ms l
unfolding holds_by
holds-sides differs ns ms (equal p q) e f = ap₂ eqb e f
holds-sides differs ns ms (unequal p q) e f = ap₂ differs e f

module _ (rows : List Row) (rep : ℕ → ℕ) (offset : ℕ) (ps : List Pattern) (given given' : List ℕ) (k : ℕ)
    (agree : (v : ℕ) → v < k → number_at given v ≡ number_at given' v) where
  row-prefix : (m p : ℕ) → k ≤ m → get_or (levels ps) p 0 ≤ k
      → number_at (stages rows rep offset ps given m).numbers p ≡ number_at (stages rows rep offset ps given' k).numbers p
  row-prefix m p h l =
      stages-later rows rep offset ps given k m p h l
      ∙ ap (λ (s : Numbering). number_at s.numbers p) (stages-prefix rows rep offset ps given given' k agree)

  pub holds-stages : (differs : ℕ → ℕ → Bool) (m : ℕ) → k ≤ m → (l : Literal) → ready k (levels ps) l ≡ true
      → holds_by differs (stages rows rep offset ps given m).numbers l ≡ holds_by differs (stages rows rep offset ps given' k).numbers l
  unfolding ready
  holds-stages differs m h l r =
      let a : ℕ = get_or (levels ps) (left_of l) 0 in
      let b : ℕ = get_or (levels ps) (right_of l) 0 in
      holds-sides differs (stages rows rep offset ps given m).numbers (stages rows rep offset ps given' k).numbers l
      (row-prefix m (left_of l) h (leb-true a k (and-true-left (leb a k) (leb b k) r)))
      (row-prefix m (right_of l) h (leb-true b k (and-true-right (leb a k) (leb b k) r)))

  pub holds-prefix : (differs : ℕ → ℕ → Bool) → k ≤ variables ps → (l : Literal) → ready k (levels ps) l ≡ true
      → holds_by differs (numbers rows rep offset ps given) l ≡ holds_by differs (stages rows rep offset ps given' k).numbers l
  unfolding numbers
  holds-prefix differs h l r = holds-stages differs (variables ps) h l r
