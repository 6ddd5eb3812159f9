-- Pattern rows one by one: a row's level and its instance by those of its arguments, the rows that stand at a level, and the order (level, row) of reading.
--     mem-front, mem-back, mem-cases          members of two lists in a row
--     placed_at, args-before                  the arguments of a pattern row stand before it
--     length-levels, level-at                 a row's level is that of its pattern over the levels of all rows
--     level-variable, level-args              a variable's level; an argument's level is at most its user's
--     instance-at                             a row's instance is that of its pattern over all instances
--     rows-at, rows-rising                    the rows of level k are just those whose level is k, in rising order
--     Ready, Orderly, level-orderly           an order in which each row stands once and after its arguments; a level's rows after those of lower levels are one
--     ReadBelow, none_read, stage-read        just the rows below a level have been read
--     number-done, stages-read                what has been read after an order, and after the stages 0 to k
-- Assumes nothing.
use mathlib.Core.Bool.{Bool, true, false}
use mathlib.Core.List.{List, [], ◌∷◌, ◌++◌, append-nil, append_assoc}
use mathlib.Core.Path.{◌≡◌, refl, ap, ap₂, sym, ◌∙◌, subst}
use mathlib.Core.Logic.{◌⊎◌, inl, inr, ⊎_elim, ◌↔◌}
use Prim.Native.Nat.{ℕ, zero, suc, ◌+◌, ◌≤◌, ◌<◌, max}
use native.Mathlib.Omega.{arith}
use lib.Dec.{eqb}
use borrow.Author.Tests.{eqb-true, eqb-false, eq-eqb}
use lib.ListN.{length, get_or, get_or-append}
use lib.Seq.{get_or-append_seam}
use Rattle.meaning.specs.Context.{Term, more, node, Row, term₀, pick}
use Rattle.meaning.specs.Rules.{Pattern, variable, apply, instance, fill, instances, Below}
use Rattle.meaning.specs.Formed.{Placed, AllPlaced}
use Rattle.meaning.specs.Values.{highest, level_of, levels_from, levels, rows_at, pattern_at, Numbering, step, number, unread, stages}
use Rattle.meaning.proofs.Lists.{length-snoc}
use Rattle.meaning.proofs.Box.{mem_below, Mem, Above, Rising, above-mem}

pub mem-front : (x : ℕ) (l m : List ℕ) → Mem x l → Mem x (l ++ m)
mem-front x [] m h = absurd h
mem-front x (y ∷ l) m (inl e) = inl e
mem-front x (y ∷ l) m (inr h) = inr (mem-front x l m h)

pub mem-back : (x : ℕ) (l m : List ℕ) → Mem x m → Mem x (l ++ m)
mem-back x [] m h = h
mem-back x (y ∷ l) m h = inr (mem-back x l m h)

pub mem-cases : (x : ℕ) (l m : List ℕ) → Mem x (l ++ m) → Mem x l ⊎ Mem x m
mem-cases x [] m h = inr h
mem-cases x (y ∷ l) m (inl e) = inl (inl e)
mem-cases x (y ∷ l) m (inr h) = ⊎_elim (λ a. inl (inr a)) inr (mem-cases x l m h)

pub placed_at : (i : ℕ) (ps : List Pattern) → AllPlaced i ps → (p : ℕ) → p < length ps → Placed (i + p) (pattern_at ps p)
placed_at i [] w p h = absurd (omega arith)
placed_at i (q ∷ ps) w zero h = let e : i ≡ i + 0 = omega arith in subst (λ (n : ℕ). Placed n q) e w.0
placed_at i (q ∷ ps) w (suc p) h =
    let e : suc i + p ≡ i + suc p = omega arith in
    subst (λ (n : ℕ). Placed n (pattern_at ps p)) e (placed_at (suc i) ps w.1 p (omega arith))

-- ---- a list that grows by a function of a pattern and of the list so far, where the function reads only the places of the pattern's arguments

module _ {A : Type 0} (f : List A → Pattern → A) where
  abbrev grown : List A → List Pattern → List A
  grown xs [] = xs
  grown xs (p ∷ ps) = grown (xs ++ (f xs p ∷ [])) ps

  length-grown : (xs : List A) (ps : List Pattern) → length (grown xs ps) ≡ length xs + length ps
  length-grown xs [] = omega arith
  length-grown xs (p ∷ ps) = omega (arith, length-grown (xs ++ (f xs p ∷ [])) ps, length-snoc xs (f xs p))

  grown-front : (xs : List A) (ps : List Pattern) → (ys : List A) × (grown xs ps ≡ xs ++ ys)
  grown-front xs [] = ([], sym (append-nil xs))
  grown-front xs (p ∷ ps) = go (grown-front (xs ++ (f xs p ∷ [])) ps)
    where
      go : (ys : List A) × (grown (xs ++ (f xs p ∷ [])) ps ≡ (xs ++ (f xs p ∷ [])) ++ ys) → (ys : List A) × (grown xs (p ∷ ps) ≡ xs ++ ys)
      go w = (f xs p ∷ w.0, w.1 ∙ append_assoc xs (f xs p ∷ []) w.0)

  module _ (d : A) (local : (xs ys : List A) (p : Pattern) → Placed (length xs) p → f (xs ++ ys) p ≡ f xs p) where
    grown-at : (xs : List A) (ps : List Pattern) → AllPlaced (length xs) ps → (k : ℕ) → k < length ps
        → get_or (grown xs ps) (length xs + k) d ≡ f (grown xs ps) (pattern_at ps k)
    grown-at xs [] w k h = absurd (omega arith)
    grown-at xs (p ∷ ps) w zero h = go (grown-front (xs ++ (f xs p ∷ [])) ps)
      where
        go : (ys : List A) × (grown (xs ++ (f xs p ∷ [])) ps ≡ (xs ++ (f xs p ∷ [])) ++ ys) → get_or (grown xs (p ∷ ps)) (length xs + 0) d ≡ f (grown xs (p ∷ ps)) p
        go y =
            let e : grown xs (p ∷ ps) ≡ xs ++ (f xs p ∷ y.0) = y.1 ∙ append_assoc xs (f xs p ∷ []) y.0 in
            let z : length xs + 0 ≡ length xs = omega arith in
            rw (z, e) (get_or-append_seam xs (f xs p) y.0 d ∙ sym (local xs (f xs p ∷ y.0) p w.0))
    grown-at xs (p ∷ ps) w (suc k) h =
        let l : suc (length xs) ≡ length (xs ++ (f xs p ∷ [])) = sym (length-snoc xs (f xs p)) in
        ap (λ (n : ℕ). get_or (grown xs (p ∷ ps)) n d) (omega (arith, l))
        ∙ grown-at (xs ++ (f xs p ∷ [])) ps (subst (λ (n : ℕ). AllPlaced n ps) l w.1) k (omega arith)

-- ---- levels

abbrev pub level_at : List Pattern → ℕ → ℕ
level_at ps r = get_or (levels ps) r 0

levels-grown : (ls : List ℕ) (ps : List Pattern) → levels_from ls ps ≡ grown level_of ls ps
unfolding levels_from
levels-grown ls [] = refl
levels-grown ls (p ∷ ps) = levels-grown (ls ++ (level_of ls p ∷ [])) ps

pub length-levels : (ps : List Pattern) → length (levels ps) ≡ length ps
unfolding levels
length-levels ps = omega (arith, ap length (levels-grown [] ps), length-grown level_of [] ps)

highest-local : (xs ys l : List ℕ) → Below (length xs) l → highest (xs ++ ys) l ≡ highest xs l
unfolding highest
highest-local xs ys [] b = refl
highest-local xs ys (a ∷ l) b = ap₂ max (get_or-append xs ys 0 a b.0) (highest-local xs ys l b.1)

level-local : (xs ys : List ℕ) (p : Pattern) → Placed (length xs) p → level_of (xs ++ ys) p ≡ level_of xs p
unfolding level_of
level-local xs ys (variable v) w = refl
level-local xs ys (apply f l) w = highest-local xs ys l w

highest-has : (ls l : List ℕ) (a : ℕ) → Mem a l → get_or ls a 0 ≤ highest ls l
unfolding highest
highest-has ls [] a m = absurd m
highest-has ls (b ∷ l) a (inl e) = let q : get_or ls a 0 ≡ get_or ls b 0 = ap (λ (x : ℕ). get_or ls x 0) e in omega arith
highest-has ls (b ∷ l) a (inr m) = omega (arith, highest-has ls l a m)

module _ (ps : List Pattern) (placed : AllPlaced 0 ps) where
  pub level-at : (p : ℕ) → p < length ps → level_at ps p ≡ level_of (levels ps) (pattern_at ps p)
  unfolding levels
  level-at p h =
      rw (levels-grown [] ps) (ap (λ (n : ℕ). get_or (grown level_of [] ps) n 0) (omega arith) ∙ grown-at level_of 0 level-local [] ps placed p h)

  pub args-before : (p f : ℕ) (l : List ℕ) → p < length ps → pattern_at ps p ≡ apply f l → Below p l
  args-before p f l h e = let z : 0 + p ≡ p = omega arith in rw (z, e) at (placed_at 0 ps placed p h)

  pub level-variable : (p v : ℕ) → p < length ps → pattern_at ps p ≡ variable v → level_at ps p ≡ suc v
  unfolding level_of
  level-variable p v h e = level-at p h ∙ ap (level_of (levels ps)) e

  pub level-args : (p f : ℕ) (l : List ℕ) → p < length ps → pattern_at ps p ≡ apply f l → (a : ℕ) → Mem a l → level_at ps a ≤ level_at ps p
  unfolding level_of
  level-args p f l h e a m =
      let q : level_at ps p ≡ highest (levels ps) l = level-at p h ∙ ap (level_of (levels ps)) e in omega (arith, highest-has (levels ps) l a m)

-- ---- instances

module _ (ps : List Pattern) (placed : AllPlaced 0 ps) (chosen : List Term) where
  fill-grown : (ts : List Term) (qs : List Pattern) → fill chosen ts qs ≡ grown (instance chosen) ts qs
  unfolding fill
  fill-grown ts [] = refl
  fill-grown ts (q ∷ qs) = fill-grown (ts ++ (instance chosen ts q ∷ [])) qs

  pick-local : (xs ys : List Term) (l : List ℕ) → Below (length xs) l → pick (xs ++ ys) l ≡ pick xs l
  unfolding pick
  pick-local xs ys [] b = refl
  pick-local xs ys (a ∷ l) b = ap₂ more (get_or-append xs ys term₀ a b.0) (pick-local xs ys l b.1)

  instance-local : (xs ys : List Term) (p : Pattern) → Placed (length xs) p → instance chosen (xs ++ ys) p ≡ instance chosen xs p
  unfolding instance
  instance-local xs ys (variable v) w = refl
  instance-local xs ys (apply f l) w = ap (node f) (pick-local xs ys l w)

  pub instance-at : (p : ℕ) → p < length ps → get_or (instances ps chosen) p term₀ ≡ instance chosen (instances ps chosen) (pattern_at ps p)
  unfolding instances
  instance-at p h =
      rw (fill-grown [] ps)
      (ap (λ (n : ℕ). get_or (grown (instance chosen) [] ps) n term₀) (omega arith) ∙ grown-at (instance chosen) term₀ instance-local [] ps placed p h)

-- ---- the rows of a level

rows_above : (x k i : ℕ) (l : List ℕ) → x < i → Above x (rows_at k i l)
unfolding rows_at
rows_above x k i [] h = tt
rows_above x k i (y ∷ l) h = go (eqb y k) refl (rows_above x k (suc i) l (omega arith))
  where
    go : (b : Bool) → eqb y k ≡ b → Above x (rows_at k (suc i) l) → Above x (rows_at k i (y ∷ l))
    go true e w = rw (e, rows_at) (h, w)
    go false e w = rw (e, rows_at) w

pub rows-rising : (k i : ℕ) (l : List ℕ) → Rising (rows_at k i l)
unfolding rows_at
rows-rising k i [] = tt
rows-rising k i (y ∷ l) = go (eqb y k) refl (rows-rising k (suc i) l)
  where
    go : (b : Bool) → eqb y k ≡ b → Rising (rows_at k (suc i) l) → Rising (rows_at k i (y ∷ l))
    go true e w = rw (e, rows_at) (rows_above i k (suc i) l (omega arith), w)
    go false e w = rw (e, rows_at) w

abbrev Stands : ℕ → ℕ → ℕ → List ℕ → Type 0
Stands r k i l = (j : ℕ) × (j < length l) × (r ≡ i + j) × (get_or l j 0 ≡ k)

rows-stand : (r k i : ℕ) (l : List ℕ) → Mem r (rows_at k i l) → Stands r k i l
unfolding rows_at
rows-stand r k i [] m = absurd m
rows-stand r k i (y ∷ l) m = go (eqb y k) refl (rows-stand r k (suc i) l) m
  where
    go : (b : Bool) → eqb y k ≡ b → (Mem r (rows_at k (suc i) l) → Stands r k (suc i) l) → Mem r (rows_at k i (y ∷ l)) → Stands r k i (y ∷ l)
    go true e f n = at (rw (e, rows_at) at n)
      where
        at : (r ≡ i) ⊎ Mem r (rows_at k (suc i) l) → Stands r k i (y ∷ l)
        at (inl q) = (0, omega arith, omega arith, eqb-true y k e)
        at (inr q) = let w : Stands r k (suc i) l = f q in (suc w.0, omega (arith, w.1), omega (arith, w.2), w.3)
    go false e f n = let w : Stands r k (suc i) l = f (rw (e, rows_at) at n) in (suc w.0, omega (arith, w.1), omega (arith, w.2), w.3)

rows-have : (k i : ℕ) (l : List ℕ) (j : ℕ) → j < length l → get_or l j 0 ≡ k → Mem (i + j) (rows_at k i l)
unfolding rows_at
rows-have k i [] j h e = absurd (omega arith)
rows-have k i (y ∷ l) zero h e = rw (eq-eqb y k e, rows_at) (inl (omega arith))
rows-have k i (y ∷ l) (suc j) h e = go (eqb y k) refl (let z : suc i + j ≡ i + suc j = omega arith in rw z at (rows-have k (suc i) l j (omega arith) e))
  where
    go : (b : Bool) → eqb y k ≡ b → Mem (i + suc j) (rows_at k (suc i) l) → Mem (i + suc j) (rows_at k i (y ∷ l))
    go true q w = rw (q, rows_at) (inr w)
    go false q w = rw (q, rows_at) w

pub rows-at : (ps : List Pattern) (k r : ℕ) → Mem r (rows_at k 0 (levels ps)) ↔ ((r < length ps) × (level_at ps r ≡ k))
rows-at ps k r = (λ m. to (rows-stand r k 0 (levels ps) m), back)
  where
    to : Stands r k 0 (levels ps) → (r < length ps) × (level_at ps r ≡ k)
    to w = let e : r ≡ w.0 = omega (arith, w.2) in (omega (arith, w.1, length-levels ps), ap (level_at ps) e ∙ w.3)

    back : (r < length ps) × (level_at ps r ≡ k) → Mem r (rows_at k 0 (levels ps))
    back w = let z : 0 + r ≡ r = omega arith in rw z at (rows-have k 0 (levels ps) r (omega (arith, length-levels ps, w.0)) w.1)

-- ---- an order of reading in which each row stands once, after its arguments

-- a row can be read: its variable has a meaning, or its arguments have been read
abbrev pub Ready : (ℕ → Type 0) → List ℕ → Pattern → Type 0
Ready Means done (variable v) = Means v
Ready Means done (apply f l) = (a : ℕ) → Mem a l → Mem a done

abbrev pub Orderly : (ℕ → Type 0) → List Pattern → List ℕ → List ℕ → Type 0
Orderly Means ps done [] = Unit {0}
Orderly Means ps done (r ∷ rs) =
    ((r < length ps) × (Mem r done → ⊥) × Ready Means done (pattern_at ps r)) × Orderly Means ps (done ++ (r ∷ [])) rs

-- just the rows below level k have been read
abbrev pub ReadBelow : List Pattern → ℕ → List ℕ → Type 0
ReadBelow ps k done = (q : ℕ) → Mem q done ↔ ((q < length ps) × (level_at ps q < k))

pub ready-more : (Means : ℕ → Type 0) (done rest : List ℕ) (p : Pattern) → Ready Means done p → Ready Means (done ++ rest) p
ready-more Means done rest (variable v) w = w
ready-more Means done rest (apply f l) w = λ a m. mem-front a done rest (w a m)

module _ (Means : ℕ → Type 0) (ps : List Pattern) (placed : AllPlaced 0 ps) where
  -- a row of an order can be read after the rows done and those of the order
  abbrev Usable : List ℕ → List ℕ → Pattern → Type 0
  Usable done rs (variable v) = Means v
  Usable done rs (apply f l) = (a : ℕ) → Mem a l → Mem a done ⊎ Mem a rs

  -- in rising order the arguments of a row come first
  rising-ready : (done : List ℕ) (r : ℕ) (rs : List ℕ) → Above r rs → r < length ps → Usable done (r ∷ rs) (pattern_at ps r) → Ready Means done (pattern_at ps r)
  rising-ready done r rs above h u = go (pattern_at ps r) refl u
    where
      go : (p : Pattern) → pattern_at ps r ≡ p → Usable done (r ∷ rs) p → Ready Means done p
      go (variable v) e x = x
      go (apply f l) e x = λ a m. ⊎_elim (λ y. y) (λ y. absurd (late a (mem_below r a l (args-before ps placed r f l h e) m) y)) (x a m)
        where
          late : (a : ℕ) → a < r → Mem a (r ∷ rs) → ⊥
          late a b (inl q) = omega arith
          late a b (inr q) = omega (arith, above-mem r a rs above q)

  usable-later : (done : List ℕ) (r : ℕ) (rs : List ℕ) (p : Pattern) → Usable done (r ∷ rs) p → Usable (done ++ (r ∷ [])) rs p
  usable-later done r rs (variable v) u = u
  usable-later done r rs (apply f l) u = λ a m. move a (u a m)
    where
      move : (a : ℕ) → Mem a done ⊎ Mem a (r ∷ rs) → Mem a (done ++ (r ∷ [])) ⊎ Mem a rs
      move a (inl y) = inl (mem-front a done (r ∷ []) y)
      move a (inr (inl y)) = inl (mem-back a done (r ∷ []) (inl y))
      move a (inr (inr y)) = inr y

  rising-orderly : (done rs : List ℕ) → Rising rs
      → ((r : ℕ) → Mem r rs → (r < length ps) × (Mem r done → ⊥) × Usable done rs (pattern_at ps r))
      → Orderly Means ps done rs
  rising-orderly done [] u h = tt
  rising-orderly done (r ∷ rs) u h = (
    ((h r (inl refl)).0, (h r (inl refl)).1, rising-ready done r rs u.0 (h r (inl refl)).0 (h r (inl refl)).2),
    rising-orderly (done ++ (r ∷ [])) rs u.1 later,
  )
    where
      later : (q : ℕ) → Mem q rs → (q < length ps) × (Mem q (done ++ (r ∷ [])) → ⊥) × Usable (done ++ (r ∷ [])) rs (pattern_at ps q)
      later q m = ((h q (inr m)).0, unread-yet, usable-later done r rs (pattern_at ps q) (h q (inr m)).2)
        where
          unread-yet : Mem q (done ++ (r ∷ [])) → ⊥
          unread-yet y = ⊎_elim (h q (inr m)).1 (⊎_elim (λ e. omega (arith, above-mem r q rs u.0 m)) (λ z. z)) (mem-cases q done (r ∷ []) y)

  level-usable : (k : ℕ) (done : List ℕ) → ((v : ℕ) → v < k → Means v) → ReadBelow ps k done
      → (r : ℕ) → r < length ps → level_at ps r ≡ k → Usable done (rows_at k 0 (levels ps)) (pattern_at ps r)
  level-usable k done means reads r h l = go (pattern_at ps r) refl
    where
      go : (p : Pattern) → pattern_at ps r ≡ p → Usable done (rows_at k 0 (levels ps)) p
      go (variable v) e = means v (omega (arith, level-variable ps placed r v h e))
      go (apply f l') e = λ a m. at a (mem_below r a l' (args-before ps placed r f l' h e) m) (level-args ps placed r f l' h e a m) (eqb (level_at ps a) k) refl
        where
          at : (a : ℕ) → a < r → level_at ps a ≤ level_at ps r → (b : Bool) → eqb (level_at ps a) k ≡ b → Mem a done ⊎ Mem a (rows_at k 0 (levels ps))
          at a c u true q = inr ((rows-at ps k a).1 (omega arith, eqb-true (level_at ps a) k q))
          at a c u false q = inl ((reads a).1 (omega arith, omega (arith, eqb-false (level_at ps a) k q)))

  pub level-orderly : (k : ℕ) (done : List ℕ) → ((v : ℕ) → v < k → Means v) → ReadBelow ps k done → Orderly Means ps done (rows_at k 0 (levels ps))
  level-orderly k done means reads = rising-orderly done (rows_at k 0 (levels ps)) (rows-rising k 0 (levels ps)) each
    where
      each : (r : ℕ) → Mem r (rows_at k 0 (levels ps)) → (r < length ps) × (Mem r done → ⊥) × Usable done (rows_at k 0 (levels ps)) (pattern_at ps r)
      each r m =
          let w : (r < length ps) × (level_at ps r ≡ k) = (rows-at ps k r).0 m in
          (w.0, λ d. omega (arith, ((reads r).0 d).1, w.1), level-usable k done means reads r w.0 w.1)

pub stage-read : (ps : List Pattern) (k : ℕ) (done : List ℕ) → ReadBelow ps k done → ReadBelow ps (suc k) (done ++ rows_at k 0 (levels ps))
stage-read ps k done reads q = (λ m. ⊎_elim old new (mem-cases q done (rows_at k 0 (levels ps)) m), λ w. back w (eqb (level_at ps q) k) refl)
  where
    old : Mem q done → (q < length ps) × (level_at ps q < suc k)
    old m = (((reads q).0 m).0, omega (arith, ((reads q).0 m).1))

    new : Mem q (rows_at k 0 (levels ps)) → (q < length ps) × (level_at ps q < suc k)
    new m = (((rows-at ps k q).0 m).0, omega (arith, ((rows-at ps k q).0 m).1))

    back : (q < length ps) × (level_at ps q < suc k) → (b : Bool) → eqb (level_at ps q) k ≡ b → Mem q (done ++ rows_at k 0 (levels ps))
    back w true e = mem-back q done (rows_at k 0 (levels ps)) ((rows-at ps k q).1 (w.0, eqb-true (level_at ps q) k e))
    back w false e = mem-front q done (rows_at k 0 (levels ps)) ((reads q).1 (w.0, omega (arith, w.1, eqb-false (level_at ps q) k e)))

pub none_read : (ps : List Pattern) → ReadBelow ps 0 []
none_read ps q = (λ m. absurd m, λ w. absurd (omega (arith, w.1)))

-- ---- the stages

module _ (rows : List Row) (rep : ℕ → ℕ) (offset : ℕ) (ps : List Pattern) (given : List ℕ) where
  pub number-done : (s : Numbering) (rs : List ℕ) → (number rows rep offset ps given s rs).done ≡ s.done ++ rs
  unfolding number step
  number-done s [] = sym (append-nil s.done)
  number-done s (r ∷ rs) = number-done (step rows rep offset ps given s r) rs ∙ append_assoc s.done (r ∷ []) rs

  -- after stage k just the rows up to level k have been read
  pub stages-read : (k : ℕ) → ReadBelow ps (suc k) (stages rows rep offset ps given k).done
  unfolding stages
  stages-read zero = rw (number-done (unread rows rep offset ps given) (rows_at 0 0 (levels ps))) (stage-read ps 0 [] (none_read ps))
  stages-read (suc k) =
      rw (number-done (stages rows rep offset ps given k) (rows_at (suc k) 0 (levels ps)))
      (stage-read ps (suc k) (stages rows rep offset ps given k).done (stages-read k))
