-- Runs that hold some pieces, and then zeros.
--     put-length       a run is as long after a piece was written
--     filled-start     a run of zeros
--     filled_put       one piece more
--     filled-holds     a run that holds what was read
-- Assumes nothing.
use mathlib.Core.List.{List, [], ◌∷◌, ◌++◌}
use mathlib.Core.Path.{◌≡◌, sym, ap, ◌∙◌}
use Prim.Native.Nat.{ℕ, ◌+◌, ◌-◌, ◌*◌, ◌≤◌}
use native.Mathlib.Nat.{suc-mul, zero-mul}
use native.Mathlib.Numerals.{add-one}
use native.Mathlib.Omega.{arith}
use lib.ListN.{length, drop, replicate, length-append, length-replicate, length-drop}
use lib.Seq.{take_at, drop-append-add, length-take-le}
use Rattle.meaning.specs.Columns.{pad}
use Rattle.runs.specs.Runs.{put}
use Rattle.runs.proofs.Zeros.{drop-zeros}
use Rattle.text_runs.specs.Numbers.{numbers_of}
use Rattle.text_runs.specs.Reads.{Holds}
use Rattle.text_runs.proofs.Saying.{numbers-snoc}
use Rattle.text_reader.specs.Lines.{Filled}

pub put-length : (size : ℕ) (run : List ℕ) (n : ℕ) (piece run' : List ℕ) → length piece ≡ size → n * size + size ≤ length run → run' ≡ put size run n piece
    → length run' ≡ length run
put-length size run n piece run' e h i =
    ap length i
    ∙ simp (length-append, length-drop) (let t = length-take-le (n * size) run (omega arith) in omega arith)

module _ {A : Type 0} {numbers : A → List ℕ} (size : ℕ) where
  pub filled-start : (run : List ℕ) → run ≡ replicate (length run) 0 → Filled numbers size 0 [] run
  unfolding numbers_of
  filled-start run e = record { spare = length run; run_is = e; long = sym (zero-mul size) }

  module _ {n : ℕ} {l : List A} {run : List ℕ} (f : Filled numbers size n l run) where
    more : (x : A) (piece : List ℕ) → numbers x ≡ piece → length piece ≡ size → length (numbers_of numbers (l ++ (x ∷ []))) ≡ (n + 1) * size
    more x piece e h =
        rw (numbers-snoc numbers l x, e, add-one n, suc-mul n size) (omega (arith, length-append (numbers_of numbers l) piece, f.long))

    past : drop (n * size + size) (numbers_of numbers l ++ replicate f.spare 0) ≡ replicate (f.spare - size) 0
    past =
        ap (λ (k : ℕ). drop (k + size) (numbers_of numbers l ++ replicate f.spare 0)) (sym f.long)
        ∙ drop-append-add (numbers_of numbers l) (replicate f.spare 0) size
        ∙ drop-zeros size f.spare

    pub filled_put : (x : A) (piece run' : List ℕ) → numbers x ≡ piece → length piece ≡ size → run' ≡ put size run n piece
        → Filled numbers size (n + 1) (l ++ (x ∷ [])) run'
    filled_put x piece run' e h i =
        record {
          spare = f.spare - size;
          run_is =
              i
              ∙ ap (λ (r : List ℕ). put size r n piece) f.run_is
              ∙ rw (
                take_at (numbers_of numbers l) (replicate f.spare 0) (n * size) f.long,
                past,
                numbers-snoc numbers l x,
                e,
              );
          long = more x piece e h;
        }

    pub filled-holds : (places : ℕ) → length run ≡ places → Holds numbers places l run (n * size)
    unfolding pad
    filled-holds places e =
        let t : length run ≡ length (numbers_of numbers l) + f.spare =
        ap length f.run_is ∙ length-append (numbers_of numbers l) (replicate f.spare 0) ∙ rw (length-replicate {A = ℕ} f.spare 0) in
        let s : f.spare ≡ places - length (numbers_of numbers l) = omega arith in
        record { run_is = f.run_is ∙ ap (λ (k : ℕ). numbers_of numbers l ++ replicate k 0) s; filled_is = sym f.long }
