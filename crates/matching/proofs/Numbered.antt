-- The numbers of an assignment of representatives, for any table whose entries stand below a bound, and the context rows that its pattern rows fit.
--     table-ordered            it is enough that the entries stand below the bound, where arguments are earlier rows
--     entries-small            the test of a table from outside
--     Numbered                 what the steps go by
--     numbered-sought          so it is of each assignment that the plain search looks through
--     held_low, free-high      a held number is a class, and a free one is none
--     held-may, held_fits      where an assignment is allowed, the context row of a held number fits
--     fixed_same               arguments that are fixed have the classes of any context row that fits
-- Assumes nothing.
use mathlib.Core.Bool.{Bool, true, false, not, ◌&&◌}
use mathlib.Core.List.{List, [], ◌∷◌, map}
use mathlib.Core.Path.{◌≡◌, refl, ap₂, subst}
use mathlib.Core.Logic.{◌⊎◌}
use Prim.Native.Nat.{ℕ, zero, suc, ◌≤◌, ◌<◌}
use native.Mathlib.Omega.{arith}
use lib.Dec.{eqb, leb, ltb}
use borrow.Author.Tests.{eqb-true, eqb-false, eq-eqb, leb-true, ltb-true, not-true}
use lib.ListN.{length}
use Rattle.meaning.specs.Context.{Row, row_at}
use Rattle.meaning.specs.Rules.{Pattern, variable, apply, variables, Below}
use Rattle.meaning.specs.Formed.{Ordered, AllPlaced}
use Rattle.meaning.specs.Values.{pattern_at, number_at, args_of, stages, numbers}
use Rattle.meaning.proofs.Logic.{and-true-left, and-true-right, and_both, false-true}
use Rattle.meaning.proofs.Lists.{below_wider}
use Rattle.meaning.proofs.Box.{Mem, AllIn, mem_below}
use Rattle.meaning.proofs.Prefix.{levels-most}
use Rattle.meaning.proofs.Levels.{level-variable, args-before}
use Rattle.meaning.proofs.Seek.{starts, lowest-below, lowest-self}
use Rattle.bits.specs.Sets.{size}
use Rattle.matching.specs.Possible.{Possible, may}
use Rattle.matching.specs.Steps.{fits, fixed, entries_below}
use Rattle.matching.specs.Sound.{In, Table}
use Rattle.matching.proofs.Numbers.{Held, Free, numbers-told, numbers-congruent}
use Rattle.bits.proofs.Members.{size-one}
use Rattle.matching.proofs.Allows.{in-low, in-inside}

entries-args : (rep : ℕ → ℕ) (n bound : ℕ) → ((i : ℕ) → i < n → rep i < bound) → (l : List ℕ) → Below n l → Below bound (map rep l)
entries-args rep n bound f [] b = tt
entries-args rep n bound f (x ∷ l) b = (f x b.0, entries-args rep n bound f l b.1)

pub table-ordered : (rows : List Row) (rep : ℕ → ℕ) (bound offset : ℕ) → bound ≤ offset → ((i : ℕ) → i < length rows → rep i < bound) → Ordered rows → Table rows rep bound offset
table-ordered rows rep bound offset low f o =
    record {
      low = low;
      entries = f;
      args = λ i h. entries-args rep (length rows) bound f (row_at rows i).args (below_wider i (length rows) (row_at rows i).args (omega arith) (o i h));
    }

pub entries-small : (rep : ℕ → ℕ) (bound n : ℕ) → entries_below rep bound n ≡ true → (i : ℕ) → i < n → rep i < bound
unfolding entries_below
entries-small rep bound zero e i h = absurd (omega arith)
entries-small rep bound (suc n) e i h = go (eqb i n) refl (λ l. entries-small rep bound n (and-true-right (ltb (rep n) bound) (entries_below rep bound n) e) i l)
  where
    go : (b : Bool) → eqb i n ≡ b → (i < n → rep i < bound) → rep i < bound
    go true q f = let z : i ≡ n = eqb-true i n q in rw z (ltb-true (rep n) bound (and-true-left (ltb (rep n) bound) (entries_below rep bound n) e))
    go false q f = f (omega (arith, eqb-false i n q))

module _ (rows : List Row) (rep : ℕ → ℕ) (bound offset : ℕ) (ps : List Pattern) where
  -- a variable's number is its row; a symbol's is held, or free
  pub record Numbered (a ns : List ℕ) : Type 0 where
    pub done : List ℕ
    pub given : (p v : ℕ) → p < length ps → pattern_at ps p ≡ variable v → (v < length a) × (number_at ns p ≡ number_at a v)
    pub small : (v : ℕ) → v < length a → number_at a v < bound
    pub applied : (p f : ℕ) (l : List ℕ) → p < length ps → pattern_at ps p ≡ apply f l
        → Below (length ps) l × (Held rows rep offset ps ns f l (number_at ns p) ⊎ Free rows rep offset ps done ns f l (number_at ns p))
    pub congruent : (p q f : ℕ) (l m : List ℕ) → p < length ps → q < length ps → pattern_at ps p ≡ apply f l → pattern_at ps q ≡ apply f m → args_of ns l ≡ args_of ns m
        → number_at ns p ≡ number_at ns q

  all-at : (xs a : List ℕ) (v : ℕ) → AllIn xs a → v < length a → Mem (number_at a v) xs
  all-at xs [] v i h = absurd (omega arith)
  all-at xs (x ∷ a) zero i h = i.0
  all-at xs (x ∷ a) (suc v) i h = all-at xs a v i.1 (omega arith)

  module _ (table : Table rows rep bound offset) where
    starts-small : (x : ℕ) → Mem x (starts rows rep) → x < bound
    starts-small x m =
        let e : rep x ≡ x = lowest-self rep x 0 (length rows) m in
        let h : x < length rows = mem_below (length rows) x (starts rows rep) (lowest-below rep (length rows) 0 (length rows) (omega arith)) m in
        omega (arith, table.entries x h)

    pub numbered-sought : AllPlaced 0 ps → (a : List ℕ) → length a ≡ variables ps → AllIn (starts rows rep) a → Numbered a (numbers rows rep offset ps a)
    numbered-sought placed a long all =
        record {
          done = (stages rows rep offset ps a (variables ps)).done;
          given = λ p v h e. (omega (arith, level-variable ps placed p v h e, levels-most ps p), rw e at (numbers-told rows rep offset ps a placed p h));
          small = λ v h. starts-small (number_at a v) (all-at (starts rows rep) a v all h);
          applied = λ p f l h e. (below_wider p (length ps) l (omega arith) (args-before ps placed p f l h e), rw e at (numbers-told rows rep offset ps a placed p h));
          congruent = numbers-congruent rows rep offset ps a placed;
        }

    module _ (ns : List ℕ) where
      pub held_low : (f : ℕ) (l : List ℕ) (n : ℕ) → Held rows rep offset ps ns f l n → n < bound
      held_low f l n w = omega (arith, w.number, table.entries w.row w.below)

      pub free-high : (done : List ℕ) (f : ℕ) (l : List ℕ) (n : ℕ) → Free rows rep offset ps done ns f l n → n < bound → ⊥
      free-high done f l n w h = omega (arith, w.number, table.low)

      -- ---- context rows that fit

      module _ (P : Possible) (inside : (p : ℕ) → p < length ps → In bound offset (P.classes p) (P.outside p) (number_at ns p)) where
        may-all : (l xs : List ℕ) → Below (length ps) l → Below bound xs → args_of ns l ≡ xs → may P.classes l xs ≡ true
        unfolding may
        may-all [] [] b c e = refl
        may-all [] (x ∷ xs) b c e = cc
        may-all (p ∷ l) [] b c e = cc
        may-all (p ∷ l) (x ∷ xs) b c e =
            let y : number_at ns p ≡ x = cc in
            let z : args_of ns l ≡ xs = cc in
            and_both (P.classes p x) (may P.classes l xs)
            (subst (λ (n : ℕ). P.classes p n ≡ true) y (in-low bound offset table.low (P.classes p) (P.outside p) (number_at ns p) (omega (arith, c.0)) (inside p b.0)))
            (may-all l xs b.1 c.1 z)

        pub held_fits : (f : ℕ) (l : List ℕ) (n : ℕ) → Below (length ps) l → (w : Held rows rep offset ps ns f l n) → fits rows rep bound ps P f l (row_at rows w.row) ≡ true
        unfolding fits
        held_fits f l n b w =
            let r : Row = row_at rows w.row in
            and_both (eqb f r.symbol) (may P.classes l (map rep r.args)) (eq-eqb f r.symbol w.symbol)
            (may-all l (map rep r.args) b (table.args w.row w.below) w.args)

        pub fixed_same : (l xs : List ℕ) → Below (length ps) l → Below bound xs → fixed rows rep bound ps P l ≡ true → may P.classes l xs ≡ true → args_of ns l ≡ xs
        unfolding fixed may
        fixed_same [] [] b c f m = refl
        fixed_same [] (x ∷ xs) b c f m = false-true m refl
        fixed_same (p ∷ l) [] b c f m = false-true m refl
        fixed_same (p ∷ l) (x ∷ xs) b c f m =
            let one : Bool = not (P.outside p) && leb (size bound (P.classes p)) 1 in
            let here : one ≡ true = and-true-left one (fixed rows rep bound ps P l) f in
            let shut : P.outside p ≡ false = not-true (P.outside p) (and-true-left (not (P.outside p)) (leb (size bound (P.classes p)) 1) here) in
            let most : size bound (P.classes p) ≤ 1 = leb-true (size bound (P.classes p)) 1 (and-true-right (not (P.outside p)) (leb (size bound (P.classes p)) 1) here) in
            let w : (number_at ns p < bound) × (P.classes p (number_at ns p) ≡ true) =
            in-inside bound offset table.low (P.classes p) (P.outside p) (number_at ns p) shut (inside p b.0) in
            ap₂ ◌∷◌
            (size-one bound (P.classes p) most (number_at ns p) x w.0 c.0 w.1 (and-true-left (P.classes p x) (may P.classes l xs) m))
            (fixed_same l xs b.1 c.1 (and-true-right one (fixed rows rep bound ps P l) f) (and-true-right (P.classes p x) (may P.classes l xs) m))
