-- Columns filled place by place.
--     Laid                       the first i places are set
--     laid-start, laid_done      nothing so far, and all
--     column-next .. arg-next    one place more
--     padded                     a column that was all zeros
--     byte_small, byte-large, byte-or   a number in a byte
-- Assumes nothing.
use mathlib.Core.List.{List, [], ◌∷◌, ◌++◌, append_assoc}
use mathlib.Core.Path.{◌≡◌, refl, sym, ap, ◌∙◌}
use Prim.Native.Nat.{ℕ, suc, ◌+◌, ◌*◌, ◌/◌, ◌%◌, ◌≤◌, ◌<◌}
use native.Mathlib.Numerals.{add-one}
use native.Mathlib.Omega.{arith}
use lib.ListN.{length, get_or, set, drop, replicate, length-set}
use lib.Seq.{set_at, drop-cons}
use borrow.Author.Tests.{lt-ltb, le-ltb}
use Rattle.std.specs.Prelude.{Result, Ok, Err}
use Rattle.std.specs.Result.{OkIff, result_unwrap_or}
use Rattle.meaning.specs.Columns.{pad}
use Rattle.runs.specs.Runs.{each}
use Rattle.runs.proofs.Saying.{each-length}
use Rattle.runs.proofs.Zeros.{drop-zeros}
use Rattle.layout.specs.Columns.{number_at, in_byte, byte_at, arg_at}

pub record Laid (g : ℕ → ℕ) (n : ℕ) (out₀ out : List ℕ) (i : ℕ) : Type 0 where
  pub room : n ≤ length out₀
  pub few : i ≤ n
  pub long : length out ≡ length out₀
  pub so : out ≡ each g i ++ drop i out₀

module _ (g : ℕ → ℕ) (n : ℕ) (out₀ : List ℕ) where
  pub laid-start : n ≤ length out₀ → Laid g n out₀ out₀ 0
  unfolding each
  laid-start e = record { room = e; few = omega arith; long = refl; so = refl }

  module _ (out : List ℕ) (i : ℕ) (l : Laid g n out₀ out i) where
    laid_next : (v : ℕ) → v ≡ g i → i < n → Laid g n out₀ (set out i v) (i + 1)
    unfolding each
    laid_next v e h =
        record {
          room = l.room;
          few = omega arith;
          long = length-set out i v ∙ l.long;
          so =
              ap (λ (o : List ℕ). set o i v) l.so
              ∙ rw (drop-cons out₀ i 0 (omega (arith, l.room)), add-one i)
              (set_at (each g i) (get_or out₀ i 0) (drop (suc i) out₀) v i (each-length g i)
              ∙ rw e (sym (append_assoc (each g i) (g i ∷ []) (drop (suc i) out₀))));
        }

    pub laid_done : n ≤ i → out ≡ each g n ++ drop n out₀
    laid_done h = let e : i ≡ n = omega (arith, l.few) in l.so ∙ ap (λ (j : ℕ). each g j ++ drop j out₀) e

module _ (run : List ℕ) (size from n : ℕ) (out₀ out : List ℕ) (i : ℕ) (h : i < n) where
  pub column-next : (v : ℕ) → v ≡ get_or run (i * size + from) 0 → Laid (number_at run size from) n out₀ out i
      → Laid (number_at run size from) n out₀ (set out i v) (i + 1)
  column-next v e l = laid_next (number_at run size from) n out₀ out i l v e h

  pub byte_next : (v w : ℕ) → w ≡ get_or run (i * size + from) 0 → v ≡ in_byte w → Laid (byte_at run size from) n out₀ out i
      → Laid (byte_at run size from) n out₀ (set out i v) (i + 1)
  byte_next v w f e l = laid_next (byte_at run size from) n out₀ out i l v (e ∙ rw f) h

  pub arg-next : (v : ℕ) → v ≡ get_or run (i / 4 * size + (from + i % 4)) 0 → Laid (arg_at run size from) n out₀ out i
      → Laid (arg_at run size from) n out₀ (set out i v) (i + 1)
  arg-next v e l = laid_next (arg_at run size from) n out₀ out i l v e h

-- ---- a column that was all zeros

pub padded : (g : ℕ → ℕ) (n m w : ℕ) (out : List ℕ) → n ≡ m → out ≡ each g n ++ drop n (replicate w 0) → out ≡ pad w (each g m)
unfolding pad
padded g n m w out i e = e ∙ rw (i, drop-zeros m w, each-length g m)

-- ---- a byte

pub byte_small : (v : ℕ) → v < 256 → v ≡ in_byte v
unfolding in_byte
byte_small v h = rw (lt-ltb v 256 h, in_byte)

pub byte-large : (v : ℕ) → 256 ≤ v → 255 ≡ in_byte v
unfolding in_byte
byte-large v h = rw (le-ltb v 256 h, in_byte)

pub byte-or : {E : Type 0} (r : Result ℕ E) (v x : ℕ) → OkIff r (v < 256) v → x ≡ result_unwrap_or r 255 → x ≡ in_byte v
byte-or (Ok y) v x w e = e ∙ w.1 ∙ byte_small v w.0
byte-or (Err d) v x w e = e ∙ byte-large v (omega (arith, w))
