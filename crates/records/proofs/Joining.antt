-- Pieces one after the other: how long they are, and each number.
--     joined_length, joined_at        so many numbers; number j of piece i
--     joined-rows .. joined-said      what such runs say
--     told-all, told_over             how many are told
-- Assumes nothing.
use mathlib.Core.List.{List, [], ◌∷◌, ◌++◌}
use mathlib.Core.Logic.{◌⊎◌, inl, inr}
use mathlib.Core.Path.{◌≡◌, refl, sym, ap, ◌∙◌}
use Prim.Native.Nat.{ℕ, zero, suc, ◌+◌, ◌*◌, ◌≤◌, ◌<◌}
use native.Mathlib.Nat.{suc-mul, mul-le-mul_right, zero-mul, eq-or-lt_of_le, le_of_suc-le-suc}
use native.Mathlib.Numerals.{add-one}
use native.Mathlib.Omega.{arith}
use Rattle.std.specs.Prelude.{min}
use Rattle.std.proofs.Math.Nat.{min-le_right, min-eq_left, min-eq_right}
use mathlib.Core.Bool.{Bool, true, false}
use lib.Dec.{ltb}
use borrow.Author.Tests.{lt-ltb, le-ltb, ltb-true, ltb-false}
use lib.ListN.{length, get_or, length-append, get_or-append}
use lib.Seq.{get_or-append-add}
use Rattle.meaning.specs.Context as M
use Rattle.meaning.specs.Context.{Statement}
use Rattle.runs.specs.Limits.{row_size, said_size}
use Rattle.runs.specs.Runs.{each, rows_of, row_in, statements_of, statement_in}
use Rattle.runs.proofs.Growing.{rows_more, statements-more}
use Rattle.records.specs.Layouts.{told, least, joined}

module _ (g : ℕ → List ℕ) (size : ℕ) (sized : (i : ℕ) → length (g i) ≡ size) where
  pub joined_length : (n : ℕ) → length (joined g n) ≡ n * size
  unfolding joined
  joined_length zero = sym (zero-mul size)
  joined_length (suc n) = rw (suc-mul n size) (omega (arith, length-append (joined g n) (g n), joined_length n, sized n))

  pub joined_at : (n i j : ℕ) → i < n → j < size → get_or (joined g n) (i * size + j) 0 ≡ get_or (g i) j 0
  unfolding joined
  joined_at zero i j h b = absurd (omega arith)
  joined_at (suc n) i j h b = go (joined_at n i j) (eq-or-lt_of_le (le_of_suc-le-suc h))
    where
      go : (i < n → j < size → get_or (joined g n) (i * size + j) 0 ≡ get_or (g i) j 0) → (i ≡ n) ⊎ (i < n) → get_or (joined g n ++ g n) (i * size + j) 0 ≡ get_or (g i) j 0
      go rest (inr l) =
          let m : suc i * size ≤ n * size = mul-le-mul_right size (omega arith) in
          get_or-append (joined g n) (g n) 0 (i * size + j) (omega (arith, joined_length n, suc-mul i size)) ∙ rest l b
      go rest (inl e) =
          let a : i * size + j ≡ length (joined g n) + j = rw e (omega (arith, joined_length n)) in
          rw a (get_or-append-add (joined g n) (g n) j 0 ∙ ap (λ (x : ℕ). get_or (g x) j 0) (sym e))

pub joined-rows : (g : ℕ → List ℕ) → ((i : ℕ) → length (g i) ≡ row_size) → (n : ℕ) → rows_of (joined g n) ≡ each (λ i. row_in (g i) 0) n
unfolding joined each rows_of
joined-rows g s zero = refl
joined-rows g s (suc n) =
    rows_more (joined g n) (g n) n (joined_length g row_size s n) (s n) ∙ ap (λ (l : List M.Row). l ++ (row_in (g n) 0 ∷ [])) (joined-rows g s n)

pub joined-said : (g : ℕ → List ℕ) → ((i : ℕ) → length (g i) ≡ said_size) → (n : ℕ) → statements_of (joined g n) ≡ each (λ i. statement_in (g i) 0) n
unfolding joined each statements_of
joined-said g s zero = refl
joined-said g s (suc n) =
    statements-more (joined g n) (g n) n (joined_length g said_size s n) (s n) ∙ ap (λ (l : List Statement). l ++ (statement_in (g n) 0 ∷ [])) (joined-said g s n)

-- ---- how many

module _ (most count : ℕ) where
  pub told-all : count ≤ most → count ≡ told most count
  unfolding told
  told-all h = rw (le-ltb most count h, told)

  pub told_over : most < count → suc most ≡ told most count
  unfolding told
  told_over h = rw (lt-ltb most count h, told)

  pub told_more : most < count → most + 1 ≡ told most count
  told_more h = rw (add-one most) (told_over h)

  pub least-all : count ≤ most → count ≡ least most count
  unfolding least
  least-all h = rw (le-ltb most count h, least)

  pub least-over : most < count → most ≡ least most count
  unfolding least
  least-over h = rw (lt-ltb most count h, least)

  pub told-min : (r : ℕ) → r ≡ min count (most + 1) → (r ≡ told most count) × (r ≤ suc most)
  told-min r e = (e ∙ go (ltb most count) refl, omega (arith, e, min-le_right count (most + 1)))
    where
      go : (b : Bool) → ltb most count ≡ b → min count (most + 1) ≡ told most count
      go true t = let h : most < count = ltb-true most count t in let k : most + 1 ≤ count = omega arith in min-eq_right k ∙ told_more h
      go false t = let h : count ≤ most = ltb-false most count t in let k : count ≤ most + 1 = omega arith in min-eq_left k ∙ told-all h

  pub least-min : (r : ℕ) → r ≡ min count most → (r ≡ least most count) × (r ≤ most)
  least-min r e = (e ∙ go (ltb most count) refl, omega (arith, e, min-le_right count most))
    where
      go : (b : Bool) → ltb most count ≡ b → min count most ≡ least most count
      go true t = let h : most < count = ltb-true most count t in let k : most ≤ count = omega arith in min-eq_right k ∙ least-over h
      go false t = let h : count ≤ most = ltb-false most count t in min-eq_left h ∙ least-all h
