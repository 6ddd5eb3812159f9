-- Variables that no literal joins may be searched apart: the first of each group, put together, is the first of all.
--     first-place, place-before    the order of assignments, by the first place where they are not the same
--     mixed, combined              one assignment on a group and another elsewhere; each variable by its own group's assignment
--     Alone                        what holds for one group, the other variables as in some assignment
--     groups-found, groups_none    the first of all; none where one group has none
--     part, parts-hold             the literals of a group; all hold where each group's do
--     part-named                   they name pattern rows, so the steps serve them too
--     group-local                  those of a group rest on its variables alone, for any table
--     apart-found, apart_none      so the plain search is the groups' firsts put together
--     group-search                 which a search gives that has the group's literals, and one row for each other variable
-- Assumes nothing.
use mathlib.Core.Bool.{Bool, true, false, ◌&&◌}
use mathlib.Core.List.{List, [], ◌∷◌}
use mathlib.Core.Path.{◌≡◌, refl, ap, sym, ◌∙◌}
use mathlib.Core.Logic.{◌⊎◌, inl, inr, ⊎_elim, ◌↔◌}
use Prim.Native.Nat.{ℕ, zero, suc, ◌+◌, ◌<◌}
use native.Mathlib.Omega.{arith}
use lib.Dec.{eqb}
use borrow.Author.Tests.{eqb-true, eq-eqb}
use lib.ListN.{length}
use Rattle.meaning.specs.Context.{Row}
use Rattle.meaning.specs.Rules.{Pattern, variable, apply, variables, Literal, Clause, Before, found, nothing, First}
use Rattle.meaning.specs.Formed.{AllPlaced, NamesAll, left_of, right_of}
use Rattle.meaning.specs.Values.{pattern_at, number_at, numbers}
use Rattle.meaning.specs.FirstBy.{holds_by, all_hold_by, breaks, first_by}
use Rattle.meaning.proofs.Logic.{and_both, and-true-left, and-true-right, false-true}
use Rattle.meaning.proofs.Order.{first_one, same_first}
use Rattle.meaning.proofs.Box.{Box, Mem, mem_below, AllIn, all-self, Rising, Good, Inside, Open}
use Rattle.meaning.proofs.Search.{search, search-first, Prunes}
use Rattle.meaning.proofs.Seek.{starts, starts-rising}
use Rattle.meaning.proofs.Pruned.{Sought, dead, dead-cuts}
use Rattle.meaning.proofs.ListingNext.{first-sought}
use Rattle.matching.specs.Sound.{Table, Over}
use Rattle.matching.proofs.Numbered.{Numbered, numbered-sought}
use Rattle.matching.proofs.Local.{Rests, holds-local}

-- ---- the order, by places

first-place : (b a : List ℕ) → length b ≡ length a → Before b a
    → (v : ℕ) × (v < length b) × (number_at b v < number_at a v) × ((u : ℕ) → u < v → number_at b u ≡ number_at a u)
first-place [] a h w = absurd w
first-place (x ∷ b) [] h w = absurd w
first-place (x ∷ b) (y ∷ a) h (inl w) = (0, omega arith, w, λ u l. absurd (omega arith))
first-place (x ∷ b) (y ∷ a) h (inr w) = later (first-place b a (omega arith) w.1)
  where
    later : ((v : ℕ) × (v < length b) × (number_at b v < number_at a v) × ((u : ℕ) → u < v → number_at b u ≡ number_at a u))
        → (v : ℕ) × (v < length (x ∷ b)) × (number_at (x ∷ b) v < number_at (y ∷ a) v) × ((u : ℕ) → u < v → number_at (x ∷ b) u ≡ number_at (y ∷ a) u)
    later k = (suc k.0, omega (arith, k.1), k.2, each)
      where
        each : (u : ℕ) → u < suc k.0 → number_at (x ∷ b) u ≡ number_at (y ∷ a) u
        each zero l = w.0
        each (suc u) l = k.3 u (omega arith)

place-before : (b a : List ℕ) (v : ℕ) → v < length b → v < length a → number_at b v < number_at a v → ((u : ℕ) → u < v → number_at b u ≡ number_at a u) → Before b a
place-before [] a v h l w f = absurd (omega arith)
place-before (x ∷ b) [] v h l w f = absurd (omega arith)
place-before (x ∷ b) (y ∷ a) zero h l w f = inl w
place-before (x ∷ b) (y ∷ a) (suc v) h l w f = inr (f 0 (omega arith), place-before b a v (omega arith) (omega arith) w (λ u i. f (suc u) (omega arith)))

module _ (group : ℕ → ℕ) where
  -- b on the group g, d elsewhere, from variable v on
  unfoldable pub mixed : ℕ → ℕ → List ℕ → List ℕ → List ℕ
  mixed g v [] d = []
  mixed g v (x ∷ b) [] = []
  mixed g v (x ∷ b) (y ∷ d) = let l : List ℕ = mixed g (suc v) b d in elim (eqb (group v) g) [ true ↦ x ∷ l | false ↦ y ∷ l ]

  -- each variable by its group's assignment, from variable v on
  unfoldable pub combined : (ℕ → List ℕ) → ℕ → ℕ → List ℕ
  combined f v zero = []
  combined f v (suc n) = number_at (f (group v)) v ∷ combined f (suc v) n

  mixed-long : (g v : ℕ) (b d : List ℕ) → length b ≡ length d → length (mixed g v b d) ≡ length b
  unfolding mixed
  mixed-long g v [] d h = refl
  mixed-long g v (x ∷ b) [] h = absurd (omega arith)
  mixed-long g v (x ∷ b) (y ∷ d) h = go (eqb (group v) g) refl (mixed-long g (suc v) b d (omega arith))
    where
      go : (c : Bool) → eqb (group v) g ≡ c → length (mixed g (suc v) b d) ≡ length b → length (mixed g v (x ∷ b) (y ∷ d)) ≡ suc (length b)
      go true e w = rw (e, mixed) (ap suc w)
      go false e w = rw (e, mixed) (ap suc w)

  mixed-all : (rows : List ℕ) (g v : ℕ) (b d : List ℕ) → AllIn rows b → AllIn rows d → AllIn rows (mixed g v b d)
  unfolding mixed
  mixed-all rows g v [] d p q = tt
  mixed-all rows g v (x ∷ b) [] p q = tt
  mixed-all rows g v (x ∷ b) (y ∷ d) p q = go (eqb (group v) g) refl (mixed-all rows g (suc v) b d p.1 q.1)
    where
      go : (c : Bool) → eqb (group v) g ≡ c → AllIn rows (mixed g (suc v) b d) → AllIn rows (mixed g v (x ∷ b) (y ∷ d))
      go true e w = rw (e, mixed) (p.0, w)
      go false e w = rw (e, mixed) (q.0, w)

  mixed-in : (g v : ℕ) (b d : List ℕ) → length b ≡ length d → (u : ℕ) → u < length b → eqb (group (v + u)) g ≡ true → number_at (mixed g v b d) u ≡ number_at b u
  unfolding mixed
  mixed-in g v [] d h u l e = absurd (omega arith)
  mixed-in g v (x ∷ b) [] h u l e = absurd (omega arith)
  mixed-in g v (x ∷ b) (y ∷ d) h zero l e = let z : v + 0 ≡ v = omega arith in let q : eqb (group v) g ≡ true = rw z at e in rw (q, mixed) refl
  mixed-in g v (x ∷ b) (y ∷ d) h (suc u) l e =
      go (eqb (group v) g) refl (let z : v + suc u ≡ suc v + u = omega arith in mixed-in g (suc v) b d (omega arith) u (omega arith) (rw z at e))
    where
      go : (c : Bool) → eqb (group v) g ≡ c → number_at (mixed g (suc v) b d) u ≡ number_at b u → number_at (mixed g v (x ∷ b) (y ∷ d)) (suc u) ≡ number_at b u
      go true q w = rw (q, mixed) w
      go false q w = rw (q, mixed) w

  mixed-out : (g v : ℕ) (b d : List ℕ) → length b ≡ length d → (u : ℕ) → u < length b → eqb (group (v + u)) g ≡ false → number_at (mixed g v b d) u ≡ number_at d u
  unfolding mixed
  mixed-out g v [] d h u l e = absurd (omega arith)
  mixed-out g v (x ∷ b) [] h u l e = absurd (omega arith)
  mixed-out g v (x ∷ b) (y ∷ d) h zero l e = let z : v + 0 ≡ v = omega arith in let q : eqb (group v) g ≡ false = rw z at e in rw (q, mixed) refl
  mixed-out g v (x ∷ b) (y ∷ d) h (suc u) l e =
      go (eqb (group v) g) refl (let z : v + suc u ≡ suc v + u = omega arith in mixed-out g (suc v) b d (omega arith) u (omega arith) (rw z at e))
    where
      go : (c : Bool) → eqb (group v) g ≡ c → number_at (mixed g (suc v) b d) u ≡ number_at d u → number_at (mixed g v (x ∷ b) (y ∷ d)) (suc u) ≡ number_at d u
      go true q w = rw (q, mixed) w
      go false q w = rw (q, mixed) w

  combined-long : (f : ℕ → List ℕ) (v n : ℕ) → length (combined f v n) ≡ n
  unfolding combined
  combined-long f v zero = refl
  combined-long f v (suc n) = ap suc (combined-long f (suc v) n)

  combined-at : (f : ℕ → List ℕ) (v n u : ℕ) → u < n → number_at (combined f v n) u ≡ number_at (f (group (v + u))) (v + u)
  unfolding combined
  combined-at f v zero u h = absurd (omega arith)
  combined-at f v (suc n) zero h = let z : v + 0 ≡ v = omega arith in rw z refl
  combined-at f v (suc n) (suc u) h = let z : v + suc u ≡ suc v + u = omega arith in rw z (combined-at f (suc v) n u (omega arith))

  all-at : (rows a : List ℕ) (v : ℕ) → AllIn rows a → v < length a → Mem (number_at a v) rows
  all-at rows [] v i h = absurd (omega arith)
  all-at rows (x ∷ a) zero i h = i.0
  all-at rows (x ∷ a) (suc v) i h = all-at rows a v i.1 (omega arith)

  combined-all : (rows : List ℕ) (f : ℕ → List ℕ) (v n : ℕ) → ((g : ℕ) → AllIn rows (f g) × (length (f g) ≡ v + n)) → AllIn rows (combined f v n)
  unfolding combined
  combined-all rows f v zero h = tt
  combined-all rows f v (suc n) h = (
    all-at rows (f (group v)) v (h (group v)).0 (omega (arith, (h (group v)).1)),
    combined-all rows f (suc v) n (λ g. ((h g).0, omega (arith, (h g).1))),
  )

  -- ---- groups by themselves

  module _ (n : ℕ) (rows : List ℕ) (S : ℕ → List ℕ → Type 0)
      (local : (g : ℕ) (a b : List ℕ) → length a ≡ n → length b ≡ n → AllIn rows a → AllIn rows b
      → ((v : ℕ) → v < n → group v ≡ g → number_at a v ≡ number_at b v) → S g a → S g b) where
    abbrev pub Whole : List ℕ → Type 0
    Whole a = (length a ≡ n) × AllIn rows a × ((g : ℕ) → S g a)

    -- what holds for one group, the others as in d
    pub record Alone (g : ℕ) (d a : List ℕ) : Type 0 where
      pub long : length a ≡ n
      pub all : AllIn rows a
      pub so : S g a
      pub others : (v : ℕ) → v < n → eqb (group v) g ≡ false → number_at a v ≡ number_at d v

    module _ (d : List ℕ) (long : length d ≡ n) (all : AllIn rows d) where
      alone-mixed : (g : ℕ) (b : List ℕ) → length b ≡ n → AllIn rows b → S g b → Alone g d (mixed g 0 b d)
      alone-mixed g b h i s =
          record {
            long = mixed-long g 0 b d (h ∙ sym long) ∙ h;
            all = mixed-all rows g 0 b d i all;
            so =
                local g b (mixed g 0 b d) h (mixed-long g 0 b d (h ∙ sym long) ∙ h) i (mixed-all rows g 0 b d i all)
                (λ v l e. let z : v ≡ 0 + v = omega arith in sym (mixed-in g 0 b d (h ∙ sym long) v (omega arith) (eq-eqb (group (0 + v)) g (ap group (sym z) ∙ e))))
                s;
            others = λ v l e. let z : v ≡ 0 + v = omega arith in mixed-out g 0 b d (h ∙ sym long) v (omega arith) (ap (λ (u : ℕ). eqb (group u) g) (sym z) ∙ e);
          }

      pub groups_none : (g : ℕ) → First (Alone g d) nothing → First Whole nothing
      groups_none g f = λ b w. f (mixed g 0 b d) (alone-mixed g b w.0 w.1 (w.2 g))

      pub groups-found : (f : ℕ → List ℕ) → ((g : ℕ) → First (Alone g d) (found (f g))) → First Whole (found (combined f 0 n))
      groups-found f firsts = ((combined-long f 0 n, whole-all, holds), least)
        where
          a : List ℕ
          a = combined f 0 n

          whole-all : AllIn rows a
          whole-all = combined-all rows f 0 n (λ g. ((firsts g).0.all, (firsts g).0.long ∙ (omega arith)))

          at : (v : ℕ) → v < n → number_at a v ≡ number_at (f (group v)) v
          at v h = let z : 0 + v ≡ v = omega arith in combined-at f 0 n v h ∙ ap (λ (u : ℕ). number_at (f (group u)) u) z

          holds : (g : ℕ) → S g a
          holds g =
              local g (f g) a (firsts g).0.long (combined-long f 0 n) (firsts g).0.all whole-all
              (λ v h e. ap (λ (c : ℕ). number_at (f c) v) (sym e) ∙ sym (at v h))
              (firsts g).0.so

          least : (b : List ℕ) → Whole b → Before b a → ⊥
          least b w q =
              let k : (v : ℕ) × (v < length b) × (number_at b v < number_at a v) × ((u : ℕ) → u < v → number_at b u ≡ number_at a u) =
              first-place b a (w.0 ∙ sym (combined-long f 0 n)) q in
              earlier k.0 (omega (arith, k.1, w.0)) k.2 k.3
            where
              earlier : (v : ℕ) → v < n → number_at b v < number_at a v → ((u : ℕ) → u < v → number_at b u ≡ number_at a u) → ⊥
              earlier v h l same =
                  (firsts g).1 m (alone-mixed g b w.0 w.1 (w.2 g))
                  (place-before m (f g) v (omega (arith, mixed-long g 0 b d (w.0 ∙ sym long), w.0)) (omega (arith, (firsts g).0.long))
                  (omega (arith, own v h (eq-eqb g g refl), at v h, l))
                  (λ u i. each u i (eqb (group u) g) refl))
                where
                  g : ℕ
                  g = group v

                  m : List ℕ
                  m = mixed g 0 b d

                  own : (u : ℕ) → u < n → eqb (group u) g ≡ true → number_at m u ≡ number_at b u
                  own u i e = let z : u ≡ 0 + u = omega arith in mixed-in g 0 b d (w.0 ∙ sym long) u (omega (arith, w.0)) (ap (λ (x : ℕ). eqb (group x) g) (sym z) ∙ e)

                  each : (u : ℕ) → u < v → (c : Bool) → eqb (group u) g ≡ c → number_at m u ≡ number_at (f g) u
                  each u i true e =
                      own u (omega arith) e ∙ same u i ∙ at u (omega arith) ∙ ap (λ (x : ℕ). number_at (f x) u) (eqb-true (group u) g e)
                  each u i false e =
                      (let z : u ≡ 0 + u = omega arith in mixed-out g 0 b d (w.0 ∙ sym long) u (omega (arith, w.0)) (ap (λ (x : ℕ). eqb (group x) g) (sym z) ∙ e))
                      ∙ sym ((firsts g).0.others u (omega arith) e)

-- ---- the literals of a group

-- a literal's group is handed in
unfoldable pub part : (Literal → ℕ) → ℕ → List Literal → List Literal
part owner g [] = []
part owner g (l ∷ ls) = let rest : List Literal = part owner g ls in elim (eqb (owner l) g) [ true ↦ l ∷ rest | false ↦ rest ]

pub part-named : (owner : Literal → ℕ) (g size : ℕ) (ls : List Literal) → NamesAll size ls → NamesAll size (part owner g ls)
unfolding part
part-named owner g size [] w = tt
part-named owner g size (l ∷ ls) w = go (eqb (owner l) g) refl (part-named owner g size ls w.1)
  where
    go : (b : Bool) → eqb (owner l) g ≡ b → NamesAll size (part owner g ls) → NamesAll size (part owner g (l ∷ ls))
    go true e f = rw (e, part) (w.0, f)
    go false e f = rw (e, part) f

module _ (differs : ℕ → ℕ → Bool) (ns : List ℕ) (owner : Literal → ℕ) where
  part-holds : (g : ℕ) (ls : List Literal) → all_hold_by differs ns ls ≡ true → all_hold_by differs ns (part owner g ls) ≡ true
  unfolding part all_hold_by
  part-holds g [] e = refl
  part-holds g (l ∷ ls) e = go (eqb (owner l) g) refl (part-holds g ls (and-true-right (holds_by differs ns l) (all_hold_by differs ns ls) e))
    where
      go : (b : Bool) → eqb (owner l) g ≡ b → all_hold_by differs ns (part owner g ls) ≡ true → all_hold_by differs ns (part owner g (l ∷ ls)) ≡ true
      go true q w = rw (q, part) (and_both (holds_by differs ns l) (all_hold_by differs ns (part owner g ls)) (and-true-left (holds_by differs ns l) (all_hold_by differs ns ls) e) w)
      go false q w = rw (q, part) w

  part-first : (l : Literal) (ls : List Literal) → all_hold_by differs ns (part owner (owner l) (l ∷ ls)) ≡ true → holds_by differs ns l ≡ true
  unfolding part all_hold_by
  part-first l ls e =
      let q : eqb (owner l) (owner l) ≡ true = eq-eqb (owner l) (owner l) refl in
      and-true-left (holds_by differs ns l) (all_hold_by differs ns (part owner (owner l) ls)) (rw (q, part) at e)

  part-rest : (g : ℕ) (l : Literal) (ls : List Literal) → all_hold_by differs ns (part owner g (l ∷ ls)) ≡ true → all_hold_by differs ns (part owner g ls) ≡ true
  unfolding part all_hold_by
  part-rest g l ls e = go (eqb (owner l) g) refl
    where
      go : (b : Bool) → eqb (owner l) g ≡ b → all_hold_by differs ns (part owner g ls) ≡ true
      go true q = and-true-right (holds_by differs ns l) (all_hold_by differs ns (part owner g ls)) (rw (q, part) at e)
      go false q = rw (q, part) at e

  parts-hold : (ls : List Literal) → ((g : ℕ) → all_hold_by differs ns (part owner g ls) ≡ true) → all_hold_by differs ns ls ≡ true
  unfolding all_hold_by
  parts-hold [] f = refl
  parts-hold (l ∷ ls) f =
      and_both (holds_by differs ns l) (all_hold_by differs ns ls) (part-first l ls (f (owner l))) (parts-hold ls (λ g. part-rest g l ls (f g)))

-- ---- the clause and the box of a group

abbrev pub clause_of : (Literal → ℕ) → ℕ → Clause → Clause
clause_of owner g k = record { patterns = k.patterns; literals = part owner g k.literals }

-- from variable v on: a variable of the group has all rows, any other its row of d
unfoldable pub box_of : (ℕ → ℕ) → ℕ → List ℕ → ℕ → List ℕ → Box
box_of group g rows v [] = []
box_of group g rows v (y ∷ d) = let rest : Box = box_of group g rows (suc v) d in elim (eqb (group v) g) [ true ↦ rows ∷ rest | false ↦ (y ∷ []) ∷ rest ]

module _ (group : ℕ → ℕ) (g : ℕ) (rows : List ℕ) where
  box-long : (v : ℕ) (d : List ℕ) → length (box_of group g rows v d) ≡ length d
  unfolding box_of
  box-long v [] = refl
  box-long v (y ∷ d) = go (eqb (group v) g) refl (box-long (suc v) d)
    where
      go : (b : Bool) → eqb (group v) g ≡ b → length (box_of group g rows (suc v) d) ≡ length d → length (box_of group g rows v (y ∷ d)) ≡ suc (length d)
      go true e w = rw (e, box_of) (ap suc w)
      go false e w = rw (e, box_of) (ap suc w)

  box-good : Rising rows → (v : ℕ) (d : List ℕ) → AllIn rows d → Good rows (box_of group g rows v d)
  unfolding box_of
  box-good up v [] i = tt
  box-good up v (y ∷ d) i = go (eqb (group v) g) refl (box-good up (suc v) d i.1)
    where
      go : (b : Bool) → eqb (group v) g ≡ b → Good rows (box_of group g rows (suc v) d) → Good rows (box_of group g rows v (y ∷ d))
      go true e w = rw (e, box_of) ((up, all-self rows rows (λ x m. m)), w)
      go false e w = rw (e, box_of) (((tt, tt), (i.0, tt)), w)

  box-inside : (v : ℕ) (d a : List ℕ) → length a ≡ length d → AllIn rows a → ((u : ℕ) → u < length d → eqb (group (v + u)) g ≡ false → number_at a u ≡ number_at d u)
      → Inside (box_of group g rows v d) a
  unfolding box_of
  box-inside v [] [] h i f = tt
  box-inside v [] (x ∷ a) h i f = absurd (omega arith)
  box-inside v (y ∷ d) [] h i f = absurd (omega arith)
  box-inside v (y ∷ d) (x ∷ a) h i f =
      go (eqb (group v) g) refl
      (box-inside (suc v) d a (omega arith) i.1 (λ u l e. f (suc u) (omega arith) (let z : v + suc u ≡ suc v + u = omega arith in ap (λ (w : ℕ). eqb (group w) g) z ∙ e)))
    where
      go : (b : Bool) → eqb (group v) g ≡ b → Inside (box_of group g rows (suc v) d) a → Inside (box_of group g rows v (y ∷ d)) (x ∷ a)
      go true e w = rw (e, box_of) (i.0, w)
      go false e w = rw (e, box_of) (inl (f 0 (omega arith) (let z : v + 0 ≡ v = omega arith in ap (λ (u : ℕ). eqb (group u) g) z ∙ e)), w)

  box-others : (v : ℕ) (d a : List ℕ) → Inside (box_of group g rows v d) a → (u : ℕ) → u < length d → eqb (group (v + u)) g ≡ false → number_at a u ≡ number_at d u
  unfolding box_of
  box-others v [] a i u h e = absurd (omega arith)
  box-others v (y ∷ d) a i u h e = go (eqb (group v) g) refl a i u h e (box-others (suc v) d)
    where
      later : (a : List ℕ) (u : ℕ) → Inside (box_of group g rows (suc v) d) a → u < length d → eqb (group (v + suc u)) g ≡ false
          → ((b : List ℕ) → Inside (box_of group g rows (suc v) d) b → (w : ℕ) → w < length d → eqb (group (suc v + w)) g ≡ false → number_at b w ≡ number_at d w)
          → number_at a u ≡ number_at d u
      later a u w l q ih = let z : suc v + u ≡ v + suc u = omega arith in ih a w u l (ap (λ (n : ℕ). eqb (group n) g) z ∙ q)

      go : (b : Bool) → eqb (group v) g ≡ b → (a : List ℕ) → Inside (box_of group g rows v (y ∷ d)) a → (u : ℕ) → u < length (y ∷ d) → eqb (group (v + u)) g ≡ false
          → ((b : List ℕ) → Inside (box_of group g rows (suc v) d) b → (w : ℕ) → w < length d → eqb (group (suc v + w)) g ≡ false → number_at b w ≡ number_at d w)
          → number_at a u ≡ number_at (y ∷ d) u
      go true p [] w u l q ih = absurd (rw (p, box_of) at w)
      go false p [] w u l q ih = absurd (rw (p, box_of) at w)
      go true p (x ∷ a) w zero l q ih = let z : v + 0 ≡ v = omega arith in false-true p (ap (λ (n : ℕ). eqb (group n) g) (sym z) ∙ q)
      go false p (x ∷ a) w zero l q ih = only (rw (p, box_of) at w)
        where
          only : (((x ≡ y) ⊎ ⊥) × Inside (box_of group g rows (suc v) d) a) → x ≡ y
          only k = ⊎_elim (λ e. e) (λ z. absurd z) k.0
      go true p (x ∷ a) w (suc u) l q ih = later a u (tail (rw (p, box_of) at w)) (omega arith) q ih
        where
          tail : (Mem x rows × Inside (box_of group g rows (suc v) d) a) → Inside (box_of group g rows (suc v) d) a
          tail k = k.1
      go false p (x ∷ a) w (suc u) l q ih = later a u (tail (rw (p, box_of) at w)) (omega arith) q ih
        where
          tail : (((x ≡ y) ⊎ ⊥) × Inside (box_of group g rows (suc v) d) a) → Inside (box_of group g rows (suc v) d) a
          tail k = k.1

module _ (differs apart : ℕ → ℕ → Bool) (rows : List Row) (rep : ℕ → ℕ) (bound offset : ℕ) (k : Clause) (table : Table rows rep bound offset)
    (placed : AllPlaced 0 k.patterns) (over : Over bound differs apart) (group : ℕ → ℕ) (owner : Literal → ℕ) (reach : ℕ → ℕ → Bool) where
  abbrev ps : List Pattern
  ps = k.patterns

  abbrev n : ℕ
  n = variables ps

  -- `reach` is given a pattern row and a variable, and passes the variables of the row's term at least
  pub record Reach : Type 0 where
    pub own : (p v : ℕ) → p < length k.patterns → pattern_at k.patterns p ≡ variable v → reach p v ≡ true
    pub args : (p f : ℕ) (l : List ℕ) → p < length k.patterns → pattern_at k.patterns p ≡ apply f l → (x v : ℕ) → Mem x l → reach x v ≡ true → reach p v ≡ true

  -- a side of a literal: a pattern row whose variables are all of the literal's group
  abbrev pub SideOf : ℕ → ℕ → Type 0
  SideOf g p = (p < length k.patterns) × ((v : ℕ) → reach p v ≡ true → group v ≡ g)

  abbrev pub Joined : List Literal → Type 0
  Joined [] = Unit {0}
  Joined (l ∷ ls) = (SideOf (owner l) (left_of l) × SideOf (owner l) (right_of l)) × Joined ls

  abbrev pub Holding : ℕ → List ℕ → Type 0
  Holding g a = all_hold_by differs (numbers rows rep offset k.patterns a) (part owner g k.literals) ≡ true

  -- what moves each literal of a group moves all of them
  part-moves : (ns ms : List ℕ) (g : ℕ)
      → ((l : Literal) → owner l ≡ g → SideOf (owner l) (left_of l) → SideOf (owner l) (right_of l) → holds_by differs ns l ≡ true → holds_by differs ms l ≡ true)
      → (ls : List Literal) → Joined ls → all_hold_by differs ns (part owner g ls) ≡ true → all_hold_by differs ms (part owner g ls) ≡ true
  unfolding part all_hold_by
  part-moves ns ms g f [] j e = refl
  part-moves ns ms g f (l ∷ ls) j e = go (eqb (owner l) g) refl (part-moves ns ms g f ls j.1)
    where
      go : (b : Bool) → eqb (owner l) g ≡ b → (all_hold_by differs ns (part owner g ls) ≡ true → all_hold_by differs ms (part owner g ls) ≡ true)
          → all_hold_by differs ms (part owner g (l ∷ ls)) ≡ true
      go true q ih =
          let w : (holds_by differs ns l && all_hold_by differs ns (part owner g ls)) ≡ true = rw (q, part) at e in
          rw (q, part)
          (and_both (holds_by differs ms l) (all_hold_by differs ms (part owner g ls))
          (f l (eqb-true (owner l) g q) j.0.0 j.0.1 (and-true-left (holds_by differs ns l) (all_hold_by differs ns (part owner g ls)) w))
          (ih (and-true-right (holds_by differs ns l) (all_hold_by differs ns (part owner g ls)) w)))
      go false q ih = rw (q, part) (ih (rw (q, part) at e))

  module _ (reaches : Reach) (joined : Joined k.literals) where
    abbrev ns : List ℕ → List ℕ
    ns a = numbers rows rep offset ps a

    told : (a : List ℕ) → length a ≡ n → AllIn (starts rows rep) a → Numbered rows rep bound offset ps a (ns a)
    told a h i = numbered-sought rows rep bound offset ps table placed a h i

    pub group-local : (g : ℕ) (a b : List ℕ) → length a ≡ variables k.patterns → length b ≡ variables k.patterns → AllIn (starts rows rep) a → AllIn (starts rows rep) b
        → ((v : ℕ) → v < variables k.patterns → group v ≡ g → number_at a v ≡ number_at b v) → Holding g a → Holding g b
    group-local g a b ha hb ia ib agree e =
        part-moves (ns a) (ns b) g
        (λ l q r t. holds-local rows rep bound offset ps table placed a (ns a) one b (ns b) (told b hb ib) (SideOf g) rests differs apart over l (rw q at r) (rw q at t))
        k.literals
        joined
        e
      where
        one : Numbered rows rep bound offset ps a (ns a)
        one = told a ha ia

        rests : Rests rows rep bound offset ps table placed a (ns a) one b (ns b) (told b hb ib) (SideOf g)
        rests =
            record {
              below = λ p r. r.0;
              given = λ p v r x. agree v (omega (arith, (one.given p v r.0 x).0)) (r.1 v (reaches.own p v r.0 x));
              args = λ p f l r x y m. (mem_below (length ps) y l (one.applied p f l r.0 x).0 m, λ v t. r.1 v (reaches.args p f l r.0 x y v m t));
            }

    sought-whole : (a : List ℕ) → Sought differs rows rep offset k a ↔ Whole group n (starts rows rep) Holding group-local a
    unfolding breaks
    sought-whole a = (
      λ m. (m.0, m.1, λ g. part-holds differs (ns a) owner g k.literals m.2),
      λ w. (w.0, w.1, parts-hold differs (ns a) owner k.literals w.2),
    )

    -- ---- the searches put together

    abbrev pub AloneIn : ℕ → List ℕ → List ℕ → Type 0
    AloneIn = Alone group (variables k.patterns) (starts rows rep) Holding group-local

    module _ (d : List ℕ) (long : length d ≡ variables k.patterns) (all : AllIn (starts rows rep) d) where
      pub apart-found : (f : ℕ → List ℕ) → ((g : ℕ) → First (AloneIn g d) (found (f g))) → first_by differs rows rep offset k ≡ found (combined group f 0 (variables k.patterns))
      apart-found f firsts =
          first_one (Sought differs rows rep offset k) n (λ a m. m.0) (first_by differs rows rep offset k) (found (combined group f 0 n)) (first-sought differs rows rep offset k)
          (same_first sought-whole (found (combined group f 0 n)) (groups-found group n (starts rows rep) Holding group-local d long all f firsts))

      pub apart_none : (g : ℕ) → First (AloneIn g d) nothing → first_by differs rows rep offset k ≡ nothing
      apart_none g none =
          first_one (Sought differs rows rep offset k) n (λ a m. m.0) (first_by differs rows rep offset k) nothing (first-sought differs rows rep offset k)
          (same_first sought-whole nothing (groups_none group n (starts rows rep) Holding group-local d long all g none))

      -- the clause of a group's literals, searched where the other variables have their row of d alone
      pub group-search : (g : ℕ) (prune : List ℕ → Box → Box) → Prunes (Sought differs rows rep offset (clause_of owner g k)) (starts rows rep) prune
          → First (AloneIn g d) (search (dead differs rows rep offset (clause_of owner g k)) prune (variables k.patterns) [] (box_of group g (starts rows rep) 0 d))
      unfolding breaks
      group-search g prune p =
          same_first opens (search (dead differs rows rep offset (clause_of owner g k)) prune n [] (box_of group g (starts rows rep) 0 d))
          (search-first (Sought differs rows rep offset (clause_of owner g k)) n (starts rows rep) (dead differs rows rep offset (clause_of owner g k)) prune
          (dead-cuts differs rows rep offset (clause_of owner g k))
          p
          (box_of group g (starts rows rep) 0 d)
          (box-long group g (starts rows rep) 0 d ∙ long)
          (box-good group g (starts rows rep) (starts-rising rows rep) 0 d all))
        where
          opens : (a : List ℕ) → AloneIn g d a ↔ Open (Sought differs rows rep offset (clause_of owner g k)) [] (box_of group g (starts rows rep) 0 d) a
          opens a = (
            λ w.
                record {
                  rest = a;
                  whole = refl;
                  inside = box-inside group g (starts rows rep) 0 d a (w.long ∙ sym long) w.all
                      (λ v h e. w.others v (omega (arith, h, long)) (let z : v ≡ 0 + v = omega arith in ap (λ (x : ℕ). eqb (group x) g) z ∙ e));
                  so = (w.long, w.all, w.so);
                },
            λ o.
                let e : a ≡ o.rest = o.whole in
                record {
                  long = o.so.0;
                  all = o.so.1;
                  so = o.so.2;
                  others = λ v h q.
                      ap (λ (b : List ℕ). number_at b v) e
                      ∙ box-others group g (starts rows rep) 0 d o.rest o.inside v (omega (arith, h, long))
                      (let z : 0 + v ≡ v = omega arith in ap (λ (x : ℕ). eqb (group x) g) z ∙ q);
                },
          )
