-- Pieces that are stored one behind the other.
--     sets-append    two pieces in a row are stored as one
--     put_then       so are two pieces that were put, the second where the first ends
--     put_whole      a piece that is put at the front leaves itself and what stood behind it
-- Assumes nothing.
use mathlib.Core.List.{List, [], ◌∷◌, ◌++◌}
use mathlib.Core.Path.{◌≡◌, sym, ap, ◌∙◌}
use Prim.Native.Nat.{ℕ, suc, ◌+◌, ◌≤◌}
use native.Mathlib.Nat.{add-zero, zero-add}
use native.Mathlib.Omega.{arith}
use lib.ListN.{length, set, drop, length-append}
use lib.Seq.{sets, sets-eq, length-sets}
use Rattle.reply_lines.specs.Pieces.{Put}

pub sets-append : (p q l : List ℕ) (i : ℕ) → sets l i (p ++ q) ≡ sets (sets l i p) (i + length p) q
sets-append [] q l i = rw (add-zero i)
sets-append (a ∷ p) q l i =
    let e : i + suc (length p) ≡ suc i + length p = omega arith in
    sets-append p q (set l i a) (suc i) ∙ ap (λ (k : ℕ). sets (sets (set l i a) (suc i) p) k q) (sym e)

pub put-length : {l p m : List ℕ} {i n : ℕ} → Put l i p n m → length m ≡ length l
put-length {l} {p} {m} {i} d = ap length d.stored ∙ length-sets l i p

pub put_then : {l p m q r : List ℕ} {i n k : ℕ} → Put l i p n m → Put m n q k r → Put l i (p ++ q) k r
put_then {l} {p} {m} {q} {r} {i} {n} {k} d e =
    record {
      place = omega (arith, d.place, e.place, length-append p q);
      stored = e.stored ∙ cc (d.place, d.stored) ∙ sym (sets-append p q l i);
    }

pub put_whole : {l p m : List ℕ} {n : ℕ} → Put l 0 p n m → length p ≤ length l → m ≡ p ++ drop (length p) l
put_whole {l} {p} {m} d h =
    let h' : 0 + length p ≤ length l = omega arith in
    d.stored ∙ sets-eq p l 0 h' ∙ ap (λ (k : ℕ). p ++ drop k l) (zero-add (length p))
