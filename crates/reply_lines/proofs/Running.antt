-- Pieces that are put one after the other.
--     run-snoc                                              one piece more
--     Running, running-start, running-step, running-done    some pieces are put, and what is left fits
-- Assumes nothing.
use mathlib.Core.List.{List, ◌++◌, append-nil, append_assoc}
use mathlib.Core.Path.{◌≡◌, refl, sym, ap, ◌∙◌}
use Prim.Native.Nat.{ℕ, zero, suc, ◌+◌, ◌-◌, ◌≤◌, ◌<◌}
use native.Mathlib.Nat.{add-zero}
use native.Mathlib.Numerals.{add-one}
use native.Mathlib.Omega.{arith}
use lib.ListN.{length, length-append}
use lib.Seq.{sets}
use Rattle.reply_lines.specs.Pieces.{Room, Put, run}
use Rattle.reply_lines.proofs.Stores.{sets-append, put-length}

pub run-snoc : (piece : ℕ → List ℕ) (i n : ℕ) → run piece i (suc n) ≡ run piece i n ++ piece (i + n)
unfolding run
run-snoc piece i zero = append-nil (piece i) ∙ ap piece (sym (add-zero i))
run-snoc piece i (suc n) =
    let e : suc i + n ≡ i + suc n = omega arith in
    ap (λ (l : List ℕ). piece i ++ l) (run-snoc piece (suc i) n ∙ ap (λ (k : ℕ). run piece (suc i) n ++ piece k) e)
    ∙ sym (append_assoc (piece i) (run piece (suc i) n) (piece (i + suc n)))

-- n - i pieces are left
rest-cut : (piece : ℕ → List ℕ) (i n : ℕ) → i < n → run piece i (n - i) ≡ piece i ++ run piece (i + 1) (n - (i + 1))
unfolding run
rest-cut piece i n h =
    let e : n - i ≡ suc (n - (i + 1)) = omega arith in
    ap (run piece i) e ∙ ap (λ (k : ℕ). piece i ++ run piece k (n - (i + 1))) (sym (add-one i))

pub record Running (piece : ℕ → List ℕ) (n : ℕ) (lent : List ℕ) (at i to : ℕ) (after : List ℕ) : Type 0 where
  pub within : i ≤ n
  pub place : to + length (run piece i (n - i)) ≡ at + length (run piece 0 n)
  pub stored : sets after to (run piece i (n - i)) ≡ sets lent at (run piece 0 n)
  pub long : length after ≡ length lent

pub running-start : (piece : ℕ → List ℕ) (n : ℕ) (lent : List ℕ) (at : ℕ) → Running piece n lent at 0 at lent
running-start piece n lent at =
    let e : n - 0 ≡ n = omega arith in
    record { within = omega arith; place = rw e; stored = rw e; long = refl }

pub running-room : {piece : ℕ → List ℕ} {n : ℕ} {lent : List ℕ} {at i to : ℕ} {after : List ℕ} → Room lent at (run piece 0 n) → Running piece n lent at i to after
    → i < n → Room after to (piece i)
running-room {piece} {n} {lent} {at} {i} {to} {after} r f h =
    record {
      fits =
          omega (arith, r.fits, f.place, f.long, ap length (rest-cut piece i n h), length-append (piece i) (run piece (i + 1) (n - (i + 1))));
    }

pub running-step : {piece : ℕ → List ℕ} {n : ℕ} {lent : List ℕ} {at i to next : ℕ} {after made : List ℕ} → Running piece n lent at i to after → i < n
    → Put after to (piece i) next made → Running piece n lent at (i + 1) next made
running-step {piece} {n} {lent} {at} {i} {to} {next} {after} {made} f h d =
    record {
      within = omega arith;
      place = omega (arith, d.place, f.place, ap length (rest-cut piece i n h), length-append (piece i) (run piece (i + 1) (n - (i + 1))));
      stored =
          ap (λ (l : List ℕ). sets l next (run piece (i + 1) (n - (i + 1)))) d.stored
          ∙ ap (λ (k : ℕ). sets (sets after to (piece i)) k (run piece (i + 1) (n - (i + 1)))) d.place
          ∙ sym (sets-append (piece i) (run piece (i + 1) (n - (i + 1))) after to) ∙ ap (sets after to) (sym (rest-cut piece i n h)) ∙ f.stored;
      long = put-length d ∙ f.long;
    }

pub running-done : {piece : ℕ → List ℕ} {n : ℕ} {lent : List ℕ} {at i to : ℕ} {after : List ℕ} → Running piece n lent at i to after → n ≤ i
    → Put lent at (run piece 0 n) to after
unfolding run
running-done {piece} {n} {lent} {at} {i} {to} {after} f h =
    let e : n - i ≡ 0 = omega arith in
    record { place = omega (arith, f.place, ap (λ (k : ℕ). length (run piece i k)) e); stored = sym (ap (λ (k : ℕ). sets after to (run piece i k)) e) ∙ f.stored }
