-- The search of the code gives what the plain search gives, whatever the table is.
--     order-front      the rows of the levels below k come first in the order
--     hunt-search      the search over boxes, by a pruning that gives each variable its rows
--     hunt-free        where variables that are marked take their first row alone
-- Assumes nothing.
use mathlib.Core.Bool.{Bool, true, false, not, ◌&&◌, ◌||◌}
use mathlib.Core.List.{List, [], ◌∷◌, ◌++◌, append_assoc}
use mathlib.Core.Path.{◌≡◌, refl, sym, ap, ap₂, ◌∙◌, subst}
use mathlib.Core.Logic.{inl, inr}
use Prim.Native.Nat.{ℕ, zero, suc, ◌+◌, ◌-◌, ◌≤◌, ◌<◌, max}
use native.Mathlib.Omega.{arith}
use native.Mathlib.Decide.{ℕ_discrete}
use native.Mathlib.Nat.{sub-zero}
use lib.Dec.{eqb}
use lib.ListN.{length, get_or, set, take, drop, replicate, length-set, length-append, length-take, length-replicate, get_or-append}
use lib.Seq.{get_or-set_same, get_or-set_other, take_at, drop_at, set_at, take-take, take-length, take-append-le, slice}
use Rattle.meaning.specs.Context.{Row}
use Rattle.meaning.specs.Rules.{Pattern, variable, apply, Literal, equal, unequal, Clause, variables, Found, found, nothing}
use Rattle.meaning.specs.Formed.{left_of, right_of, AllPlaced}
use Rattle.meaning.specs.ByTable.{same_list}
use Rattle.meaning.specs.Values.{levels, rows_at, pattern_at, number_at, args_of, Numbering, held, is_over, met, number_of, step, number, stages}
use Rattle.meaning.specs.FirstBy.{holds_by, lowest, or_else, try_all}
use Rattle.meaning.specs.Pruning.{fails, due}
use Rattle.meaning.proofs.Box.{Box, Mem}
use Rattle.meaning.proofs.Levels.{level-variable, rows-at, number-done}
use Rattle.meaning.proofs.Search.{try_box, search}
use Rattle.meaning.proofs.Prunings.{take_first}
use Rattle.meaning.proofs.Prefix.{stages-next}
use Rattle.meaning.proofs.Pruned.{start_box}
use Rattle.meaning.proofs.Due.{dead_now}
use Rattle.plan.specs.Planning.{up_to, Arranged}
use Rattle.values.specs.Reading.{read_of}
use Rattle.search.specs.Hunting.{stage_of, dead_of, try_each, enter_of, attempt_of, hunt_of, enter_from, start_of, alone_of, rows_of}

abbrev pub Alike : List ℕ → List ℕ → Type 0
Alike v w = (p : ℕ) → get_or v p 0 ≡ get_or w p 0

-- ---- tests

holds-alike : (differs : ℕ → ℕ → Bool) (v w : List ℕ) (l : Literal) → Alike v w → holds_by differs v l ≡ holds_by differs w l
unfolding holds_by
holds-alike differs v w (equal p q) f = ap₂ eqb (f p) (f q)
holds-alike differs v w (unequal p q) f = ap₂ differs (f p) (f q)

due-alike : (k : ℕ) (xs ys : List ℕ) (l : Literal) → Alike xs ys → due k xs l ≡ due k ys l
unfolding due
due-alike k xs ys l f = ap₂ (λ a b. eqb (max a b) k) (f (left_of l)) (f (right_of l))

fails-alike : (differs : ℕ → ℕ → Bool) (k : ℕ) (xs ys v w : List ℕ) (ls : List Literal) → Alike xs ys → Alike v w
    → fails differs (due k xs) v ls ≡ fails differs (due k ys) w ls
unfolding fails
fails-alike differs k xs ys v w [] f g = refl
fails-alike differs k xs ys v w (l ∷ ls) f g =
    ap₂ ◌||◌ (ap₂ (λ a b. a && not b) (due-alike k xs ys l f) (holds-alike differs v w l g)) (fails-alike differs k xs ys v w ls f g)

-- ---- values

args-alike : (v w l : List ℕ) → Alike v w → args_of v l ≡ args_of w l
args-alike v w [] f = refl
args-alike v w (a ∷ l) f = ap₂ ◌∷◌ (f a) (args-alike v w l f)

over-alike : (g : ℕ) (ns v w : List ℕ) (p : Pattern) → Alike v w → is_over g ns v p ≡ is_over g ns w p
unfolding is_over
over-alike g ns v w (variable x) f = refl
over-alike g ns v w (apply h l) f = ap (λ x. eqb g h && same_list ns x) (args-alike v w l f)

met-alike : (ps : List Pattern) (g : ℕ) (ns v w : List ℕ) (d : ℕ) (l : List ℕ) → Alike v w → met ps g ns v d l ≡ met ps g ns w d l
unfolding met
met-alike ps g ns v w d [] f = refl
met-alike ps g ns v w d (q ∷ l) f =
    ap₂ (λ (b : Bool) (r : ℕ × ℕ). elim b [ true ↦ r.0 | false ↦ r.1 ]) (over-alike g ns v w (pattern_at ps q) f)
    (ap₂ (λ (a b : ℕ). (a, b)) (f q) (met-alike ps g ns v w d l f))

set-alike : (v w : List ℕ) (r x : ℕ) → Alike v w → r < length v → r < length w → Alike (set v r x) (set w r x)
set-alike v w r x f a b p = go (ℕ_discrete p r)
  where
    go : Dec (p ≡ r) → get_or (set v r x) p 0 ≡ get_or (set w r x) p 0
    go (yes q) = ap (λ y. get_or (set v r x) y 0) q ∙ get_or-set_same v r x 0 a ∙ sym (ap (λ y. get_or (set w r x) y 0) q ∙ get_or-set_same w r x 0 b)
    go (no q) = get_or-set_other v r p x 0 q ∙ f p ∙ sym (get_or-set_other w r p x 0 q)

module _ (rows : List Row) (rep : ℕ → ℕ) (ps : List Pattern) where
  value-alike : (c a v w done : List ℕ) (own : ℕ) (p : Pattern) → Alike v w → ((x : ℕ) → p ≡ variable x → number_at c x ≡ number_at a x)
      → number_of rows rep 65536 ps c (record { numbers = v; done = done }) own p ≡ number_of rows rep 65536 ps a (record { numbers = w; done = done }) own p
  unfolding number_of
  value-alike c a v w done own (variable x) f g = g x refl
  value-alike c a v w done own (apply h l) f g =
      ap₂ (λ (ns : List ℕ) (d : ℕ). held rep h ns d 0 rows) (args-alike v w l f)
      (met-alike ps h (args_of v l) v w own done f ∙ ap (λ ns. met ps h ns w own done) (args-alike v w l f))

  -- the rows read next are pattern rows, and their variables have one value
  abbrev Agree : List ℕ → List ℕ → List ℕ → Type 0
  Agree c a rs = (r : ℕ) → Mem r rs → (r < length ps) × ((x : ℕ) → pattern_at ps r ≡ variable x → number_at c x ≡ number_at a x)

  number-alike : (c a : List ℕ) (v w done rs : List ℕ) → Alike v w → length ps ≤ length v → length ps ≤ length w → Agree c a rs
      → Alike (number rows rep 65536 ps c (record { numbers = v; done = done }) rs).numbers (number rows rep 65536 ps a (record { numbers = w; done = done }) rs).numbers
  unfolding number step
  number-alike c a v w done [] f lv lw g = f
  number-alike c a v w done (r ∷ rs) f lv lw g =
      let x : ℕ = number_of rows rep 65536 ps c (record { numbers = v; done = done }) (65536 + r) (pattern_at ps r) in
      let y : ℕ = number_of rows rep 65536 ps a (record { numbers = w; done = done }) (65536 + r) (pattern_at ps r) in
      let e : x ≡ y = value-alike c a v w done (65536 + r) (pattern_at ps r) f (g r (inl refl)).1 in
      let h : r < length ps = (g r (inl refl)).0 in
      number-alike c a (set v r x) (set w r y) (done ++ (r ∷ [])) rs
      (subst (λ z. Alike (set v r x) (set w r z)) e (set-alike v w r x f (omega arith) (omega arith)))
      (omega (arith, length-set v r x)) (omega (arith, length-set w r y))
      (λ q m. g q (inr m))

  number-long : (c : List ℕ) (s : Numbering) (rs : List ℕ) → length (number rows rep 65536 ps c s rs).numbers ≡ length s.numbers
  unfolding number step
  number-long c s [] = refl
  number-long c s (r ∷ rs) =
      number-long c (step rows rep 65536 ps c s r) rs
      ∙ length-set s.numbers r (number_of rows rep 65536 ps c s (65536 + r) (pattern_at ps r))

  stages-long : (a : List ℕ) (k : ℕ) → length (stages rows rep 65536 ps a k).numbers ≡ length ps
  unfolding stages
  stages-long a zero = number-long a (record { numbers = replicate (length ps) 0; done = [] }) (rows_at 0 0 (levels ps)) ∙ length-replicate (length ps) 0
  stages-long a (suc k) = number-long a (stages rows rep 65536 ps a k) (rows_at (suc k) 0 (levels ps)) ∙ stages-long a k

  stages-done : (a : List ℕ) (k : ℕ) → (stages rows rep 65536 ps a k).done ≡ up_to (levels ps) (suc k)
  unfolding stages up_to
  stages-done a zero = number-done rows rep 65536 ps a (record { numbers = replicate (length ps) 0; done = [] }) (rows_at 0 0 (levels ps))
  stages-done a (suc k) =
      number-done rows rep 65536 ps a (stages rows rep 65536 ps a k) (rows_at (suc k) 0 (levels ps)) ∙ ap (◌++ rows_at (suc k) 0 (levels ps)) (stages-done a k)

-- ---- the order

module _ {ls order ends : List ℕ} (r : Arranged ls order ends) where
  up-prefix : (k m : ℕ) → take (length (up_to ls k)) (up_to ls (k + m)) ≡ up_to ls k
  unfolding up_to
  up-prefix k zero = let e : k + 0 ≡ k = omega arith in rw e (take-length (up_to ls k))
  up-prefix k (suc m) =
      let e : k + suc m ≡ suc (k + m) = omega arith in
      rw e (take-append-le (length (up_to ls k)) (up_to ls (k + m)) (rows_at (k + m) 0 ls) (shorter m) ∙ up-prefix k m)
    where
      shorter : (m : ℕ) → length (up_to ls k) ≤ length (up_to ls (k + m))
      shorter zero = let e : k + 0 ≡ k = omega arith in rw e (omega arith)
      shorter (suc m) =
          let e : k + suc m ≡ suc (k + m) = omega arith in
          rw e (omega (arith, shorter m, length-append (up_to ls (k + m)) (rows_at (k + m) 0 ls)))

  pub order-front : (k : ℕ) → k ≤ 5 → take (get_or ends k 0) order ≡ up_to ls k
  order-front k h =
      let m : ℕ = 5 - k in
      let e : k + m ≡ 5 = omega arith in
      let p : take (length (up_to ls k)) (up_to ls 5) ≡ up_to ls k = rw e at (up-prefix k m) in
      let l : length (up_to ls k) ≤ length (up_to ls 5) = omega (arith, ap length p, length-take (length (up_to ls k)) (up_to ls 5)) in
      ap (λ n. take n order) (r.count k h) ∙ sym (take-take (length (up_to ls k)) (length (up_to ls 5)) order l) ∙ ap (take (length (up_to ls k))) r.front ∙ p

  order-level : (k : ℕ) → k < 5 → slice (get_or ends k 0) (get_or ends (suc k) 0) order ≡ rows_at k 0 ls
  unfolding up_to
  order-level k h =
      ap (drop (get_or ends k 0)) (order-front (suc k) h) ∙ drop_at (up_to ls k) (rows_at k 0 ls) (get_or ends k 0) (sym (r.count k (omega arith)))

-- ---- the search

pub zero-at : (n p : ℕ) → get_or {A = ℕ} (replicate n 0) p 0 ≡ 0
zero-at zero p = refl
zero-at (suc n) zero = refl
zero-at (suc n) (suc p) = zero-at n p

-- with so many variables, the pruning gives the next one its rows and leaves the others all
abbrev pub Narrows : List ℕ → ℕ → (List ℕ → Box → Box) → (ℕ → List ℕ → List ℕ) → Type 0
Narrows low total prune rows_for = (n k : ℕ) (a rest : List ℕ) → length a ≡ k → k + suc n ≡ total → prune a (replicate (suc n) low) ≡ rows_for k (a ++ rest) ∷ replicate n low

module _ (rows : List Row) (rep : ℕ → ℕ) (ps : List Pattern) (placed : AllPlaced 0 ps) (few : length ps ≤ 64)
    (ls order ends : List ℕ) (same : Alike ls (levels ps)) (order_is : Arranged (levels ps) order ends)
    (differs : ℕ → ℕ → Bool) (lits : List Literal) where
  abbrev clause : Clause
  clause = record { patterns = ps; literals = lits }

  abbrev now : List ℕ → Bool
  now = dead_now differs rows rep 65536 clause

  abbrev st : ℕ → List ℕ → List ℕ → List ℕ
  st = stage_of rows rep ps order ends

  abbrev de : ℕ → List ℕ → Bool
  de = dead_of differs ls lits

  abbrev low : List ℕ
  low = lowest rep 0 (length rows)

  -- the values of level k under an assignment of k places, with any places after them
  agree : (k : ℕ) (a rest : List ℕ) → length a ≡ k → Agree rows rep ps (a ++ rest) a (rows_at k 0 (levels ps))
  agree k a rest h r m = (
    ((rows-at ps k r).0 m).0,
    λ x e. get_or-append a rest 0 x (omega (arith, level-variable ps placed r x ((rows-at ps k r).0 m).0 e, ((rows-at ps k r).0 m).1)),
  )

  stage_is : (k : ℕ) (c v : List ℕ) → k < 5 → st k c v ≡ (number rows rep 65536 ps c (record { numbers = v; done = up_to (levels ps) k }) (rows_at k 0 (levels ps))).numbers
  unfolding stage_of read_of
  stage_is k c v h =
      ap₂ (λ (d l : List ℕ). (number rows rep 65536 ps c (record { numbers = v; done = d }) l).numbers) (order-front order_is k (omega arith)) (order-level order_is k h)

  stage-long : (k : ℕ) (c v : List ℕ) → k < 5 → length (st k c v) ≡ length v
  stage-long k c v h = ap length (stage_is k c v h) ∙ number-long rows rep ps c (record { numbers = v; done = up_to (levels ps) k }) (rows_at k 0 (levels ps))

  stage-first : Alike (st 0 (replicate 4 255) (replicate 64 0)) (stages rows rep 65536 ps [] 0).numbers
  unfolding stages up_to
  stage-first p =
      ap (λ l. get_or l p 0) (stage_is 0 (replicate 4 255) (replicate 64 0) (omega arith))
      ∙ number-alike rows rep ps (replicate 4 255) [] (replicate 64 0) (replicate (length ps) 0) [] (rows_at 0 0 (levels ps))
      (λ q. zero-at 64 q ∙ sym (zero-at (length ps) q)) few (omega (arith, length-replicate {A = ℕ} (length ps) 0)) (agree 0 [] (replicate 4 255) refl) p

  stage-more : (k : ℕ) (a rest : List ℕ) (x : ℕ) (v : List ℕ) → k < 4 → length a ≡ k → length v ≡ 64 → Alike v (stages rows rep 65536 ps a k).numbers
      → Alike (st (suc k) ((a ++ (x ∷ [])) ++ rest) v) (stages rows rep 65536 ps (a ++ (x ∷ [])) (suc k)).numbers
  stage-more k a rest x v h l lv f p =
      let b : List ℕ = a ++ (x ∷ []) in
      let lb : length b ≡ suc k = omega (arith, length-append a (x ∷ [])) in
      ap (λ m. get_or m p 0) (stage_is (suc k) (b ++ rest) v (omega arith))
      ∙ number-alike rows rep ps (b ++ rest) b v (stages rows rep 65536 ps a k).numbers (up_to (levels ps) (suc k)) (rows_at (suc k) 0 (levels ps)) f
      (omega arith) (omega (arith, stages-long rows rep ps a k)) (agree (suc k) b rest lb) p
      ∙ ap (λ (d : List ℕ). get_or (number rows rep 65536 ps b (record { numbers = (stages rows rep 65536 ps a k).numbers; done = d }) (rows_at (suc k) 0 (levels ps))).numbers p 0)
      (sym (stages-done rows rep ps a k))
      ∙ ap (λ (s : Numbering). get_or s.numbers p 0) (sym (subst (λ n. stages rows rep 65536 ps b (suc n) ≡ number rows rep 65536 ps b (stages rows rep 65536 ps a n) (rows_at (suc n) 0 (levels ps))) l (stages-next rows rep 65536 ps a x)))

  dead-same : (k : ℕ) (a v : List ℕ) → length a ≡ k → Alike v (stages rows rep 65536 ps a k).numbers → de k v ≡ now a
  unfolding dead_of dead_now
  dead-same k a v l f =
      fails-alike differs k ls (levels ps) v (stages rows rep 65536 ps a k).numbers lits same f
      ∙ ap (λ n. fails differs (due n (levels ps)) (stages rows rep 65536 ps a n).numbers lits) (sym l)

  try-same : (next : List ℕ → Found) (f : ℕ → Found) (a l : List ℕ) → ((x : ℕ) → next (a ++ (x ∷ [])) ≡ f x) → try_all next a l ≡ try_each f l
  unfolding try_all try_each
  try-same next f a [] g = refl
  try-same next f a (x ∷ l) g = ap₂ or_else (g x) (try-same next f a l g)

  module _ (prune : List ℕ → Box → Box) (rows_for : ℕ → List ℕ → List ℕ) (narrows : Narrows low (variables ps) prune rows_for) where
    search-dead : (n : ℕ) (a : List ℕ) (box : Box) → now a ≡ true → search now prune n a box ≡ nothing
    unfolding search
    search-dead zero a box e = rw (e, search)
    search-dead (suc n) a box e = rw (e, search)

    enter-same : (n j : ℕ) (a rest v : List ℕ) → length a ≡ j → Alike (st j (a ++ rest) v) (stages rows rep 65536 ps a j).numbers
        → (now a ≡ false → search now prune n a (replicate n low) ≡ hunt_of st de rows_for n j (a ++ rest) (st j (a ++ rest) v))
        → search now prune n a (replicate n low) ≡ enter_of st de (hunt_of st de rows_for n j) j (a ++ rest) v
    unfolding enter_of
    enter-same n j a rest v l f ih = go (now a) refl
      where
        go : (b : Bool) → now a ≡ b → search now prune n a (replicate n low) ≡ enter_of st de (hunt_of st de rows_for n j) j (a ++ rest) v
        go true e = rw (dead-same j a (st j (a ++ rest) v) l f ∙ e, enter_of) (search-dead n a (replicate n low) e)
        go false e = rw (dead-same j a (st j (a ++ rest) v) l f ∙ e, enter_of) (ih e)

    search-next : (n k : ℕ) (a rest : List ℕ) → length a ≡ k → k + suc n ≡ variables ps → now a ≡ false
        → search now prune (suc n) a (replicate (suc n) low) ≡ try_all (λ c. search now prune n c (replicate n low)) a (rows_for k (a ++ rest))
    unfolding search try_box
    search-next n k a rest l t d = rw (d, search) (ap (try_box (search now prune n) a) (narrows n k a rest l t))

    -- where the choice so far is not dead
    hunt-same : (n k : ℕ) (a rest v : List ℕ) → k + n ≤ 4 → k + n ≡ variables ps → length a ≡ k → length rest ≡ 4 - k → length v ≡ 64 → Alike v (stages rows rep 65536 ps a k).numbers
        → now a ≡ false → search now prune n a (replicate n low) ≡ hunt_of st de rows_for n k (a ++ rest) v
    unfolding search hunt_of attempt_of
    hunt-same zero k a rest v h t l lr lv f d = rw (d, search) (ap found (sym (take_at a rest k l)))
    hunt-same (suc n) k a [] v h t l lr lv f d = absurd (omega arith)
    hunt-same (suc n) k a (y ∷ rest) v h t l lr lv f d =
        search-next n k a (y ∷ rest) l t d
        ∙ try-same (λ c. search now prune n c (replicate n low)) (attempt_of st de (hunt_of st de rows_for n (suc k)) k (a ++ (y ∷ rest)) v) a (rows_for k (a ++ (y ∷ rest)))
        (one (λ x. hunt-same n (suc k) (a ++ (x ∷ [])) rest (st (suc k) ((a ++ (x ∷ [])) ++ rest) v) (omega arith) (omega arith) (long x) (omega arith)
        (stage-long (suc k) ((a ++ (x ∷ [])) ++ rest) v (omega arith) ∙ lv) (stage-more k a rest x v (omega arith) l lv f)))
      where
        long : (x : ℕ) → length (a ++ (x ∷ [])) ≡ suc k
        long x = omega (arith, length-append a (x ∷ []))

        one : ((x : ℕ) → now (a ++ (x ∷ [])) ≡ false
            → search now prune n (a ++ (x ∷ [])) (replicate n low) ≡ hunt_of st de rows_for n (suc k) ((a ++ (x ∷ [])) ++ rest) (st (suc k) ((a ++ (x ∷ [])) ++ rest) v))
            → (x : ℕ) → search now prune n (a ++ (x ∷ [])) (replicate n low) ≡ attempt_of st de (hunt_of st de rows_for n (suc k)) k (a ++ (y ∷ rest)) v x
        one ih x =
            enter-same n (suc k) (a ++ (x ∷ [])) rest v (long x) (stage-more k a rest x v (omega arith) l lv f) (ih x)
            ∙ ap (λ (c : List ℕ). enter_of st de (hunt_of st de rows_for n (suc k)) (suc k) c v) (append_assoc a (x ∷ []) rest ∙ sym (set_at a y rest x k l))

    pub hunt-search : variables ps ≤ 4
        → enter_from st de rows_for (variables ps) 0 (replicate 4 255) (replicate 64 0) ≡ search now prune (variables ps) [] (start_box rows rep clause)
    unfolding enter_from
    hunt-search h =
        sym (enter-same (variables ps) 0 [] (replicate 4 255) (replicate 64 0) refl stage-first
        (λ q. hunt-same (variables ps) 0 [] (replicate 4 255) (st 0 (replicate 4 255) (replicate 64 0)) (omega arith) (omega arith) refl refl
        (stage-long 0 (replicate 4 255) (replicate 64 0) (omega arith) ∙ refl) stage-first q))

  -- ---- the first breach

  start-zero : (k : ℕ) (c : List ℕ) → start_of (replicate 4 0) k c ≡ 0
  unfolding start_of
  start-zero k c = go (same_list (take k c) (take k (replicate 4 0))) refl
    where
      go : (b : Bool) → same_list (take k c) (take k (replicate 4 0)) ≡ b → start_of (replicate 4 0) k c ≡ 0
      go true e = rw (e, start_of) (zero-at 4 k)
      go false e = rw (e, start_of) refl

  -- marks that say which variables take their first row alone
  module _ (marks : List ℕ) (free : ℕ → Bool) (marked : (k : ℕ) → k < 4 → eqb (get_or marks k 0) 1 ≡ free k) (h : variables ps ≤ 4) where
    free-narrows : Narrows low (variables ps) (take_first free) (rows_of rep (length rows) marks (replicate 4 0))
    unfolding take_first rows_of alone_of
    free-narrows n k a rest l t =
        go low (free (length a)) refl ∙ ap (λ m. alone_of (get_or marks k 0) (lowest rep 0 m) ∷ replicate n low) (sym (sub-zero (length rows)))
        ∙ ap (λ s. alone_of (get_or marks k 0) (lowest rep s (length rows - s)) ∷ replicate n low) (sym (start-zero k (a ++ rest)))
      where
        m : eqb (get_or marks k 0) 1 ≡ free (length a)
        m = marked k (omega arith) ∙ ap free (sym l)

        go : (x : List ℕ) (b : Bool) → free (length a) ≡ b → take_first free a (x ∷ replicate n low) ≡ alone_of (get_or marks k 0) x ∷ replicate n low
        go [] true e = rw (m ∙ e, alone_of) refl
        go [] false e = rw (m ∙ e, alone_of) refl
        go (y ∷ x) true e = rw (m ∙ e, e, alone_of, take_first) refl
        go (y ∷ x) false e = rw (m ∙ e, e, alone_of, take_first) refl

    pub hunt-free : enter_from st de (rows_of rep (length rows) marks (replicate 4 0)) (variables ps) 0 (replicate 4 255) (replicate 64 0)
        ≡ search now (take_first free) (variables ps) [] (start_box rows rep clause)
    hunt-free = hunt-search (take_first free) (rows_of rep (length rows) marks (replicate 4 0)) free-narrows h
